-- The listed steps of an expression are exactly those that the rules derive.
use Prim.Native.Nat.{ℕ}
use mathlib.Core.Path.{refl, sym, subst}
use mathlib.Core.Logic.{⊎_elim}
use mathlib.Core.List.Memᴰ
use mathlib.Core.List.{map, Memᴰ}
use Rattle.theory.specs.Expressions.{Expr, deadlock, act, sum, product, star, Target, end, to, left, right, Step, action, summand, product_on, product_done, star_on, star_again, star_leave}
use Rattle.theory.specs.Derivatives.{Move, onto, moved, derivatives}

-- the two rules for a product as one, and so the two for the repeated part of a star
product_step : {e f : Expr} {a : ℕ} (t : Target) → Step e a t → Step (product e f) a (onto f t)
product_step end s = product_done s
product_step (to g) s = product_on s

star_step : {e f : Expr} {a : ℕ} (t : Target) → Step e a t → Step (star e f) a (onto (star e f) t)
star_step end s = star_again s
star_step (to g) s = star_on s

abbrev StepOf : Expr → Move → Type 0
StepOf e m = Step e m.0 m.1

pub derivatives_sound : (e : Expr) (m : Move) → Memᴰ m (derivatives e) → Step e m.0 m.1
derivatives_sound deadlock m h = absurd (Memᴰ.not-nil h)
derivatives_sound (act a) m h = subst (StepOf (act a)) (sym (Memᴰ.eq_of_singleton h)) action
derivatives_sound (sum e f) m h = ⊎_elim (λ i. summand left (derivatives_sound e m i)) (λ i. summand right (derivatives_sound f m i)) (Memᴰ.append_cases (derivatives e) h)
derivatives_sound (product e f) m h =
    let r = Memᴰ.of_map (moved f) (derivatives e) h in
    subst (StepOf (product e f)) r.2 (product_step r.0.1 (derivatives_sound e r.0 r.1))
derivatives_sound (star e f) m h =
    ⊎_elim
    (λ i. let r = Memᴰ.of_map (moved (star e f)) (derivatives e) i in
    subst (StepOf (star e f)) r.2 (star_step r.0.1 (derivatives_sound e r.0 r.1)))
    (λ i. star_leave (derivatives_sound f m i))
    (Memᴰ.append_cases (map (moved (star e f)) (derivatives e)) h)

pub derivatives_complete : {e : Expr} {a : ℕ} {t : Target} → Step e a t → Memᴰ (a, t) (derivatives e)
derivatives_complete action = Memᴰ.head refl
derivatives_complete (summand {f = f} left s) = Memᴰ.append_left (derivatives f) (derivatives_complete s)
derivatives_complete (summand {e = e} right s) = Memᴰ.append_right (derivatives e) (derivatives_complete s)
derivatives_complete (product_on {f = f} s) = Memᴰ.map (moved f) (derivatives_complete s)
derivatives_complete (product_done {f = f} s) = Memᴰ.map (moved f) (derivatives_complete s)
derivatives_complete (star_on {e = e} {f = f} s) = Memᴰ.append_left (derivatives f) (Memᴰ.map (moved (star e f)) (derivatives_complete s))
derivatives_complete (star_again {e = e} {f = f} s) = Memᴰ.append_left (derivatives f) (Memᴰ.map (moved (star e f)) (derivatives_complete s))
derivatives_complete (star_leave {e = e} {f = f} s) = Memᴰ.append_right (map (moved (star e f)) (derivatives e)) (derivatives_complete s)
