use native.Mathlib.Omega.{arith}
use mathlib.Core.Path.{refl}
use borrow.Author.Count.{below_more}
use Rattle.std.proofs.lemmas.Result.{err_from_is_err_and}
use Rattle.theory.specs.Relations.{related, all_pass}
use Rattle.bisimulation.proofs.PairChecks.{rows_stop}
use Rattle.bisimulation.proofs.PairLaws.{suspects_clear}
use Rattle.bisimulation.proofs.pairs.Search.run.Goals as goal

pub returns-then-is_empty : goal.returns-then-is_empty
returns-then-is_empty c = λ e relation S q z.
    let f = c.is_empty.ensures.0 c.if-is_empty.true in
    (related, all_pass z (λ u. suspects_clear S c.union_of-set.ensures u (f u)), refl)

pub loop-u-init : goal.loop-u-init
loop-u-init c = λ e relation S a h. absurd (omega arith)

pub returns-in_err-suspect_row : goal.returns-in_err-suspect_row
returns-in_err-suspect_row c =
    let p = err_from_is_err_and c.from_residual.result c.from_residual.ensures.1 in
    rw (p.1, p.2) (λ e relation S q z. rows_stop refl (rw c.in_err-suspect_row.was at c.suspect_row.ensures e relation S) z (c.loop-u.invariant e relation S))

pub loop-u-preserved : goal.loop-u-preserved
loop-u-preserved c = λ e relation S.
    below_more _ _ (c.loop-u.invariant e relation S) ((c.suspect_row.ensures e relation S).passed c.in_ok-suspect_row.was)

pub returns : goal.returns
returns c = λ e relation S q z. (related, all_pass z (λ u v r. c.loop-u.invariant e relation S u (omega (arith, (S.fits.inside u v r).0, c.loop-u-test.false)) v r), refl)
