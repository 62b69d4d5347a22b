use native.Mathlib.Omega.{arith}
use mathlib.Core.Path.{refl}
use borrow.Author.Count.{below_more}
use Rattle.std.proofs.lemmas.Result.{err_from_is_err_and}
use Rattle.bisimulation.proofs.PairChecks.{row_stop, row_passed}
use Rattle.bisimulation.proofs.pairs.Search.check_row.Goals as goal

pub loop-v-init : goal.loop-v-init
loop-v-init c = λ e relation S w h. absurd (omega arith)

pub returns-in_err-suspect_pair : goal.returns-in_err-suspect_pair
returns-in_err-suspect_pair c =
    let p = err_from_is_err_and c.from_residual.result c.from_residual.ensures.1 in
    rw (p.1, p.2) (λ e relation S. row_stop refl (rw c.in_err-suspect_pair.was at c.suspect_pair.ensures e relation S) (c.loop-v.invariant e relation S))

pub loop-v-preserved : goal.loop-v-preserved
loop-v-preserved c = λ e relation S.
    below_more _ _ (c.loop-v.invariant e relation S) ((c.suspect_pair.ensures e relation S).passed c.in_ok-suspect_pair.was)

pub returns : goal.returns
returns c = λ e relation S. row_passed (λ v r. c.loop-v.invariant e relation S v (omega (arith, (S.fits.inside _ v r).1, c.vertices-v-end.ensures, c.loop-v-test.false)) r)
