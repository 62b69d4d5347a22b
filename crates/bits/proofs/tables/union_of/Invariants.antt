use Rattle.bits.specs.Sets.{Members}
use Rattle.bits.specs.Tables.{InFirst}
use Rattle.bits.proofs.tables.union_of.Given as goal

abbrev pub invariant-loop-v : goal.invariant-loop-v
invariant-loop-v l = Members (InFirst l.table l.v) l.all
