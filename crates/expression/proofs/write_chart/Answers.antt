-- `expression::write_chart` meets its contract. The refusal of the nodes, or what writing a chart that passes does.
use mathlib.Core.Path.{sym, ◌∙◌}
use Rattle.std.proofs.lemmas.Result.{err_from_is_err_and}
use Rattle.expression.proofs.Bodies.{refused}
use Rattle.expression.proofs.write_chart.Goals as goal

pub returns-in_err-check : goal.returns-in_err-check
returns-in_err-check c =
    let p = err_from_is_err_and c.from_residual.result c.from_residual.ensures.1 in
    rw (p.1, p.2) (refused _ _ _ (sym c.check.ensures ∙ c.in_err-check.was))
