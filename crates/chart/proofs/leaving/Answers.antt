use mathlib.Core.Path.{sym, ◌∙◌}
use Rattle.chart.proofs.Parts.{leaving_refused}
use Rattle.chart.proofs.leaving.Goals as goal

pub returns-in-Err : goal.returns-in-Err
returns-in-Err c = sym (leaving_refused _ _ (sym c.check.ensures ∙ c.in-Err.is))
