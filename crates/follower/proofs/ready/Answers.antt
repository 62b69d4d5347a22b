use mathlib.Core.Path.{refl, sym, ◌∙◌}
use mathlib.Core.Bool.{true≢false}
use native.Mathlib.Omega.{arith}
use Rattle.chart.proofs.Checks.{well_formed}
use Rattle.follower.proofs.ready.Goals as goal

pub byte-requires : goal.byte-requires
byte-requires c = let W = well_formed _ c.requires in omega (arith, W.header.long)

pub returns-then-state_fits : goal.returns-then-state_fits
returns-then-state_fits c = (
  (λ f. refl),
  λ n. absurd (n (rw c.byte.ensures.0 at (c.state_fits.ensures.0 c.if-state_fits.true))),
)

pub returns : goal.returns
returns c = (
  (λ f. absurd (true≢false (sym (c.state_fits.ensures.1 (rw c.byte.ensures.0 f)) ∙ c.if-state_fits.false))),
  λ n. refl,
)
