use Rattle.bits.proofs.Members.{packed_set}
use Rattle.bits.proofs.sets.read_set.Goals as goal

pub returns : goal.returns
returns c = packed_set c.args.s.now c.args.at _ c.read_u64.ensures c.read_u64-2.ensures
