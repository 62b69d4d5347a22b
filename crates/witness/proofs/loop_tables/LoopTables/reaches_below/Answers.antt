use mathlib.Core.Bool.{false≢true}
use Rattle.witness.proofs.loop_tables.LoopTables.reaches_below.Goals as goal

pub returns-then-below_level : goal.returns-then-below_level
returns-then-below_level c = λ e. (_, λ w j. (c.closure_knowing.ensures.exactly w j).1, c.below_level-then-below_level.ensures e)

pub returns-else-below_level : goal.returns-else-below_level
returns-else-below_level c = λ e. absurd (false≢true (rw c.if-below_level.false at e))
