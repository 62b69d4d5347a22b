use mathlib.Core.Path.{sym}
use Rattle.std.proofs.lemmas.Result.{err_from_is_err_and}
use Rattle.elimination.proofs.TogetherCalls.{together_fits, all_cleared, all_kept}
use Rattle.elimination.proofs.remove_together.Goals as goal

pub returns-in_err-answer_together : goal.returns-in_err-answer_together
returns-in_err-answer_together c =
    let p = err_from_is_err_and c.from_residual.result c.from_residual.ensures.1 in
    let e = c.in_err-answer_together.ensures in
    rw (p.1, p.2) (e, all_kept _ _ _ _ (sym e))

pub clear_all-requires : goal.clear_all-requires
clear_all-requires c = together_fits _ _ _ _ (sym c.in_ok-answer_together.ensures)

pub returns : goal.returns
returns c = let e = c.in_ok-answer_together.ensures in (e, all_cleared _ _ _ _ (sym e) c.clear_all.ensures)
