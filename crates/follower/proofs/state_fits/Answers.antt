use mathlib.Core.Path.{sym, ◌∙◌}
use mathlib.Core.Bool.{true≢false}
use native.Mathlib.Omega.{arith}
use Rattle.follower.proofs.Finds.{fits_not, fits_highest}
use Rattle.follower.proofs.state_fits.Goals as goal

pub returns-then-is_empty : goal.returns-then-is_empty
returns-then-is_empty c = fits_not (λ (s, m). s.0 (c.is_empty.ensures.0 c.if-is_empty.true))

pub with_highest-highest-requires : goal.with_highest-highest-requires
with_highest-highest-requires c = λ e. true≢false (sym (c.is_empty.ensures.1 e) ∙ c.if-is_empty.false)

pub returns : goal.returns
returns c = fits_highest (omega arith) c.with_highest-highest.ensures.0
