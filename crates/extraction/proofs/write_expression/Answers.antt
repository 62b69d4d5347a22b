use mathlib.Core.Path.{sym, ◌∙◌}
use Rattle.std.proofs.lemmas.Result.{err_from_is_err_and}
use Rattle.extraction.proofs.ExtractionCalls.{chart_told}
use Rattle.extraction.proofs.write_expression.Goals as goal

pub returns-in_err-check : goal.returns-in_err-check
returns-in_err-check c =
    let p = err_from_is_err_and c.from_residual.result c.from_residual.ensures.1 in
    rw (p.1, p.2) (chart_told _ _ _ (sym c.in_err-check.was ∙ c.check.ensures))
