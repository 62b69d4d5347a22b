use mathlib.Core.Logic.{inl, inr, ⊎_elim}
use Rattle.bisimulation.proofs.classes.with_alike.Goals as goal

pub returns-then-others-eq0 : goal.returns-then-others-eq0
returns-then-others-eq0 c = λ j. (inl, ⊎_elim (λ p. p) (λ (n, q). absurd (n c.if-others-eq0.true)))

pub returns : goal.returns
returns c =
    let n = c.if-others-eq0.false in
    let O = c.bit_or.ensures in
    let W = c.with_bit.ensures.exactly in
    λ j. (
      λ on. ⊎_elim (λ p. ⊎_elim inl (λ q. inr (n, inl q)) ((O j).0 p)) (λ e. inr (n, inr e)) ((W j).0 on),
      ⊎_elim (λ p. (W j).1 (inl ((O j).1 (inl p)))) (λ (d, q). (W j).1 (⊎_elim (λ p. inl ((O j).1 (inr p))) inr q)),
    )
