use Rattle.bits.proofs.Members.{union_law}
use Rattle.bits.proofs.sets.Set.union.Goals as goal

pub returns : goal.returns
returns c = union_law c.args.self c.args.other _ c.bit_or.ensures c.bit_or-2.ensures
