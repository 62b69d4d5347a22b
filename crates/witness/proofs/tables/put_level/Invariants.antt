use Rattle.witness.proofs.Lows.{Putting}
use Rattle.witness.proofs.tables.put_level.Given as goal

abbrev pub invariant-loop-v : goal.invariant-loop-v
invariant-loop-v l = Putting l.yielded l.level l.initial.low l.low
