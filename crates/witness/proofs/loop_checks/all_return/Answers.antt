use mathlib.Core.Bool.{false≢true}
use Rattle.reach.proofs.Searches.{all_in}
use Rattle.witness.proofs.Entries.{levels_in}
use Rattle.witness.proofs.loop_checks.all_return.Goals as goal

pub returns-then-is_empty : goal.returns-then-is_empty
returns-then-is_empty c = λ e.
    let low = rw (c.row.ensures, c.row-2.ensures) at c.difference.ensures in
    let high = rw (c.row-then-is_empty.ensures, c.row-then-is_empty-2.ensures) at c.difference-then-is_empty.ensures in
    levels_in _ (all_in low (c.is_empty.ensures.0 c.if-is_empty.true)) (all_in high (c.is_empty-then-is_empty.ensures.0 e))

pub returns-else-is_empty : goal.returns-else-is_empty
returns-else-is_empty c = λ e. absurd (false≢true (rw c.if-is_empty.false at e))
