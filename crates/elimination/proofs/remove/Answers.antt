use mathlib.Core.Path.{sym}
use Rattle.std.proofs.lemmas.Result.{err_from_is_err_and}
use Rattle.elimination.proofs.Removals.{done_fits}
use Rattle.elimination.proofs.Answers.{left_cleared, left_same}
use Rattle.elimination.proofs.remove.Goals as goal

pub returns-in_err-answer : goal.returns-in_err-answer
returns-in_err-answer c =
    let p = err_from_is_err_and c.from_residual.result c.from_residual.ensures.1 in
    let e = c.in_err-answer.ensures in
    rw (p.1, p.2) (e, left_same _ _ _ _ _ (sym e))

pub clear-requires : goal.clear-requires
clear-requires c = done_fits _ _ _ _ _ (sym c.in_ok-answer.ensures)

pub returns : goal.returns
returns c = let e = c.in_ok-answer.ensures in (e, left_cleared _ _ _ _ _ (sym e) c.clear.ensures)
