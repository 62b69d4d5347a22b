use Prim.Native.Nat.{ℕ}
use mathlib.Core.Path.{sym, ◌∙◌, ap}
use mathlib.Core.List.{List}
use Rattle.std.specs.Prelude.{Result}
use Rattle.report.specs.declared.Refusal.{Refusal}
use Rattle.report.specs.declared.Response.{Response}
use Rattle.follower.proofs.Calls.{lent_called, lent_other}
use Rattle.follower.proofs.called_lent.Goals as goal

pub returns-then-state-ne-STATE_SIZE-clause-answer : goal.returns-then-state-ne-STATE_SIZE-clause-answer
returns-then-state-ne-STATE_SIZE-clause-answer c =
    c.other_length.ensures ∙ sym (ap (λ (m : Result Response Refusal × List ℕ). m.0) (lent_other _ _ _ c.if-state-ne-STATE_SIZE.true))

pub returns-then-state-ne-STATE_SIZE-clause-left : goal.returns-then-state-ne-STATE_SIZE-clause-left
returns-then-state-ne-STATE_SIZE-clause-left c =
    sym (ap (λ (m : Result Response Refusal × List ℕ). m.1) (lent_other _ _ _ c.if-state-ne-STATE_SIZE.true))

pub returns-clause-answer : goal.returns-clause-answer
returns-clause-answer c =
    (lent_called _ _ _ c.if-state-ne-STATE_SIZE.false c.state_of.ensures c.called-moved.ensures).0

pub returns-clause-left : goal.returns-clause-left
returns-clause-left c =
    c.put_state.ensures ∙ (lent_called _ _ _ c.if-state-ne-STATE_SIZE.false c.state_of.ensures c.called-moved.ensures).1
