use mathlib.Core.Path.{sym, ◌∙◌}
use mathlib.Core.Bool.{true≢false}
use Rattle.chart.proofs.Checks.{well_formed}
use Rattle.follower.specs.Parts.{goes}
use Rattle.follower.proofs.Finds.{step_stays}
use Rattle.follower.proofs.step.Goals as goal

pub returns-then-is_empty : goal.returns-then-is_empty
returns-then-is_empty c =
    let s = c.args.chart.now in
    step_stays _ (well_formed _ s.passed) s.bytes c.image-targets.ensures (c.is_empty.ensures.0 c.if-is_empty.true)

pub returns : goal.returns
returns c = goes (λ e. true≢false (sym (c.is_empty.ensures.1 e) ∙ c.if-is_empty.false)) c.image-targets.ensures
