use mathlib.Core.Path.{ap, ◌∙◌}
use Rattle.report.specs.Numbers.{followed_numbers}
use Rattle.report.proofs.NumberLaws.{as_answer}
use Rattle.sequence.proofs.seq_restart.Goals as goal

pub returns : goal.returns
returns c = (as_answer _ _ c.into.ensures ∙ ap followed_numbers c.restart_lent.ensures.0, c.restart_lent.ensures.1)
