use mathlib.Core.Logic.{⊎_elim}
use native.Mathlib.Omega.{arith}
use Rattle.theory.proofs.Tests.{not_so}
use Rattle.reach.proofs.Searches.{turned_more}
use Rattle.reach.proofs.cycle_from_below.Goals as goal

pub loop-w-preserved : goal.loop-w-preserved
loop-w-preserved c =
    rw c.put_row.ensures
    (turned_more c.loop-w.invariant c.loop-w-test.true c.requires.2 (rw c.new.ensures.0 at c.turn_reaches-set.ensures)
    (not_so c.contains.ensures c.if-contains.false) c.with-past.ensures
    (λ x. ⊎_elim (λ (p, q). (p, omega (arith, q))) (λ e. (omega arith, omega (arith, e))))
    (λ x p q d. (p, omega (arith, q, d))))
