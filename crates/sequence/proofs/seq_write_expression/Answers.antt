use mathlib.Core.Path.{ap, ◌∙◌}
use Rattle.report.specs.Numbers.{length_numbers}
use Rattle.report.proofs.NumberLaws.{as_answer}
use Rattle.sequence.proofs.seq_write_expression.Goals as goal

pub returns : goal.returns
returns c = (as_answer _ _ c.into.ensures ∙ ap length_numbers c.write_expression.ensures.0, c.write_expression.ensures.1)
