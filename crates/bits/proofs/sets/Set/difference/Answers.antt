use Rattle.bits.proofs.Members.{difference_law}
use Rattle.bits.proofs.sets.Set.difference.Goals as goal

pub returns : goal.returns
returns c = difference_law c.args.self c.args.other _ c.bit_and_not.ensures c.bit_and_not-2.ensures
