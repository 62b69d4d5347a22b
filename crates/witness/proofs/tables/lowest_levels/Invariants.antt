use Rattle.witness.proofs.Lows.{LowTo}
use Rattle.witness.proofs.tables.lowest_levels.Given as goal

abbrev pub invariant-loop-level : goal.invariant-loop-level
invariant-loop-level l = LowTo l.entered l.level l.seen l.low
