use Rattle.bits.proofs.Members.{intersection_law}
use Rattle.bits.proofs.sets.Set.intersection.Goals as goal

pub returns : goal.returns
returns c = intersection_law c.args.self c.args.other _ c.bit_and.ensures c.bit_and-2.ensures
