use mathlib.Core.Logic.{by_cases}
use native.Mathlib.Decide.{ℕ_discrete}
use Rattle.witness.proofs.loop_checks.apart_but.Goals as goal

pub returns : goal.returns
returns c = λ e w h g. by_cases (ℕ_discrete w c.args.v) (λ z. z) (λ n.
    absurd (c.is_empty.ensures.0 e w ((c.without.ensures w).1 ((c.intersection.ensures w).1 (h, g), n))))
