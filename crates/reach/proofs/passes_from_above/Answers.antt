use mathlib.Core.Logic.{⊎_elim}
use native.Mathlib.Omega.{arith}
use Rattle.theory.proofs.Tests.{not_so}
use Rattle.reach.proofs.Searches.{turned_more}
use Rattle.reach.proofs.passes_from_above.Goals as goal

pub loop-w-preserved : goal.loop-w-preserved
loop-w-preserved c =
    let some = c.loop-w-test.true in
    let within = c.loop-w.auto.w in
    rw c.put_row.ensures
    (turned_more c.loop-w.invariant (omega (arith, some, within)) c.requires.2 (rw c.new.ensures.0 at c.turn_reaches-set.ensures)
    (not_so c.contains.ensures c.if-contains.false) c.with-past.ensures
    (λ x. ⊎_elim (λ (p, q). (omega (arith, p), q)) (λ e. (omega (arith, e), omega (arith, e, some, within))))
    (λ x p q d. (omega (arith, p, d, some), q)))
