use mathlib.Core.Path.{ap, ◌∙◌}
use Rattle.report.specs.Numbers.{done_numbers}
use Rattle.report.proofs.NumberLaws.{as_answer}
use Rattle.sequence.proofs.seq_remove.Goals as goal

pub returns : goal.returns
returns c = (as_answer _ _ c.into.ensures ∙ ap done_numbers c.remove.ensures.0, c.remove.ensures.1)
