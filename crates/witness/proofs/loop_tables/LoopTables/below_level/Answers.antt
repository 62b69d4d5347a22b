use mathlib.Core.Bool.{false≢true}
use Rattle.theory.proofs.Tests.{not_so}
use Rattle.witness.proofs.loop_tables.LoopTables.below_level.Goals as goal

pub returns-then-not-contains : goal.returns-then-not-contains
returns-then-not-contains c = λ e. record {
  endless = not_so c.contains.ensures c.if-not-contains.true;
  lower = λ w h. c.is_empty.ensures.0 e w ((c.not_lower.ensures.exactly w h.0.0.below).1 h);
}

pub returns-else-not-contains : goal.returns-else-not-contains
returns-else-not-contains c = λ e. absurd (false≢true (rw c.if-not-contains.false at e))
