use mathlib.Core.Path.{sym, ◌∙◌}
use Rattle.std.proofs.lemmas.Result.{err_from_is_err_and}
use Rattle.extraction.proofs.ExtractionCalls.{passed_long, labels_told, text_told}
use Rattle.extraction.proofs.write_drawn.Goals as goal

pub returns-in_err-check_all : goal.returns-in_err-check_all
returns-in_err-check_all c =
    let A = rw c.new-chart.ensures at c.check_all.ensures in
    let p = err_from_is_err_and c.from_residual.result c.from_residual.ensures.1 in
    rw (p.1, p.2) (labels_told _ _ _ c.requires (sym c.in_err-check_all.was ∙ A))

pub invariant_of-labelling-clause-long : goal.invariant_of-labelling-clause-long
invariant_of-labelling-clause-long c =
    passed_long _ _ (sym c.in_ok-check_all.was ∙ c.check_all.ensures)

pub returns : goal.returns
returns c =
    let A = rw c.new-chart.ensures at c.check_all.ensures in
    text_told _ _ _ c.requires (sym c.in_ok-check_all.was ∙ A) (rw c.new-chart.ensures at c.write_labelled.ensures)
