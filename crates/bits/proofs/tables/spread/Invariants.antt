use Rattle.bits.proofs.Gains.{Spreading}
use Rattle.bits.proofs.tables.spread.Given as goal

abbrev pub invariant-loop-k : goal.invariant-loop-k
invariant-loop-k l = Spreading l.initial.table l.v l.set l.yielded l.table
