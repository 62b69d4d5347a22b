use mathlib.Core.Path.{sym, ◌∙◌, ap}
use Rattle.follower.specs.Calls.{by_other_length}
use Rattle.report.proofs.Exits.{handed_on}
use Rattle.report.proofs.Exits.{handed_on}
use Rattle.follower.proofs.other_length.Goals as goal

pub returns-in_err-check : goal.returns-in_err-check
returns-in_err-check c = handed_on _ c.from_residual.ensures.1 ∙ sym (ap by_other_length (sym c.in_err-check.ensures))

pub returns : goal.returns
returns c = sym (ap by_other_length (sym c.in_ok-check.ensures))
