use mathlib.Core.Path.{ap, ◌∙◌}
use Rattle.report.specs.Numbers.{verdict_numbers}
use Rattle.report.proofs.NumberLaws.{as_answer}
use Rattle.sequence.proofs.seq_check.Goals as goal

pub returns : goal.returns
returns c = as_answer _ _ c.into.ensures ∙ ap verdict_numbers c.check.ensures
