-- What the check makes of the targets that it is lent: it keeps them where it refuses, and there is one answer.
use Prim.Native.Nat.{ℕ}
use mathlib.Core.Path.{◌≡◌, refl, sym, ◌∙◌}
use mathlib.Core.List.{List}
use native.Mathlib.Decide.{dec_lt}
use native.Mathlib.Omega.{arith}
use lib.Seq.{ext_get_or}
use Rattle.std.specs.Prelude.{Result, Ok, Err}
use Rattle.report.specs.declared.Refusal.{Refusal}
use Rattle.expression.specs.Table.{count}
use Rattle.expression.specs.Targets.{TargetsAfter}

pub kept_after : (s : List ℕ) (g : Result Unit Refusal) (a b : List ℕ) → (g ≡ Ok tt → ⊥) → b ≡ a → TargetsAfter s g a b
kept_after s g a b refused e = record { found = λ q. absurd (refused q); past = λ j h. rw e; kept = λ p q. e }

-- THE THEOREM: what `check_with_targets` leaves is determined by the nodes, its answer and what stood there
pub targets_one : {s : List ℕ} {g : Result Unit Refusal} {a b b' : List ℕ} → TargetsAfter s g a b → TargetsAfter s g a b' → b ≡ b'
targets_one {s} {g = Ok tt} {a} {b} {b'} t u =
    let f = t.found refl in
    let f' = u.found refl in
    ext_get_or 0 b b' (f.long ∙ sym f'.long) (λ j h. elim (dec_lt j (count s)) [
      | yes q ↦ f.each j q ∙ sym (f'.each j q)
      | no q ↦ t.past j (omega (arith, q)) ∙ sym (u.past j (omega (arith, q)))
    ])
targets_one {s} {g = Err p} {a} {b} {b'} t u = t.kept p refl ∙ sym (u.kept p refl)
