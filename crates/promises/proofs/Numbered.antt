-- From what each answer says to what its numbers say.
use mathlib.Core.Path.{◌≡◌, refl, sym, ◌∙◌, ap}
use mathlib.Core.Logic.{◌↔◌}
use Rattle.report.specs.declared.Numbers.{Numbers}
use Rattle.promises.specs.Numbered.{Numbered, ByNumbers}

-- A CALL that answers c and leaves `left`
module _ {X L : Type 0} (numbers : X → Numbers) {Answer : X → L → Type 0} {c : X} {left : L}
    (says : (x : X) (t : L) → ((c ≡ x) × (left ≡ t)) ↔ Answer x t) where
  pub by_numbers : ByNumbers numbers Answer c left
  by_numbers k t = (
    (λ (e, f). record { answer = c; meant = (says c t).0 (refl, f); numbered = e }),
    (λ h. let (e, f) = (says h.answer t).1 h.meant in (ap numbers e ∙ h.numbered, f)),
  )

  -- and nothing else is meant
  pub one_given : {k k' : Numbers} {t t' : L} → Numbered numbers (λ x. Answer x t) k → Numbered numbers (λ x. Answer x t') k'
      → (k ≡ k') × (t ≡ t')
  one_given h h' =
      let (e, f) = (by_numbers _ _).1 h in
      let (e', f') = (by_numbers _ _).1 h' in
      (sym e ∙ e', sym f ∙ f')
