-- What is written is the text; a text is written where the budget reaches its number of nodes; and so there is one text.
use mathlib.Core.Path.{◌≡◌, refl, sym, ap, ◌∙◌}
use mathlib.Core.Logic.{◌≢◌, ◌↔◌}
use mathlib.Core.Option.{Option, none, some, some-injective, none-ne-some}
use Prim.Native.Nat.{ℕ, zero, suc, ◌+◌, ◌≤◌, ◌<◌}
use native.Mathlib.Omega.{arith}
use native.Mathlib.Decide.{ℕ_discrete, dec_le}
use borrow.Author.Tests.{eq-eqb, ne_eqb, le-leb}
use Rattle.theory.specs.Expressions.{Expr, deadlock, act, sum, product, star}
use Rattle.theory.specs.Tests.{Decides}
use Rattle.theory.proofs.Tests.{decided, is_false, decides_and, decides_not, decides_eqb, decides_leb}
use Rattle.theory.specs.LabelledCharts.{LabelledChart, Half, entries, branches, InHalf}
use Rattle.theory.specs.Texts.{plus, total, Text, text, Sum, nothing, other, alone, times}
use Rattle.theory.specs.PostOrders.{size}
use Rattle.theory.specs.TextTests.{in_half, times_all, plus_all, star_all, item, sum_of, star_of, written, up_to, fitting}

-- the test decides which half a transition is in
pub decides_half : (c : LabelledChart) (half : Half) (w i : ℕ) → Decides (in_half c half w i) (InHalf c half w i)
decides_half c entries w i = decides_and (decides_eqb (c.chart.from i) w) (decides_not (decides_eqb (c.label i) 0))
decides_half c branches w i = decides_and (decides_eqb (c.chart.from i) w) (decides_eqb (c.label i) 0)

-- WHAT IS WRITTEN, IF ANYTHING, IS THE TEXT
abbrev IfText : LabelledChart → ℕ → ℕ → Option Expr → Type 0
IfText c w back none = Unit {0}
IfText c w back (some e) = Text c w back e

abbrev IfSum : LabelledChart → Half → ℕ → ℕ → ℕ → Option (Option Expr) → Type 0
IfSum c half w back n none = Unit {0}
IfSum c half w back n (some x) = Sum c half w back n x

module _ (c : LabelledChart) (half : Half) (w back n : ℕ) (h : InHalf c half w n) where
  sound_alone : (x : Option (Option Expr)) → c.chart.to n ≡ back → IfSum c half w back n x
      → IfSum c half w back (suc n) (plus_all x (some (act (c.chart.action n))))
  sound_alone none e s = tt
  sound_alone (some x) e s = alone s h e

  sound_times : (x : Option (Option Expr)) (y : Option Expr) → c.chart.to n ≢ back → IfSum c half w back n x
      → IfText c (c.chart.to n) back y → IfSum c half w back (suc n) (plus_all x (times_all (c.chart.action n) y))
  sound_times none y e s t = tt
  sound_times (some x) none e s t = tt
  sound_times (some x) (some y) e s t = times s h e t

sound_other : (c : LabelledChart) (half : Half) (w back n : ℕ) (x : Option (Option Expr)) → ¬ InHalf c half w n
    → IfSum c half w back n x → IfSum c half w back (suc n) x
sound_other c half w back n none h s = tt
sound_other c half w back n (some x) h s = other s h

sound_star : (c : LabelledChart) (w back : ℕ) (x y : Option (Option Expr)) → w ≢ 0
    → IfSum c entries w w c.chart.count x → IfSum c branches w back c.chart.count y → IfText c w back (star_all x y)
sound_star c w back none y h s t = tt
sound_star c w back (some x) none h s t = tt
sound_star c w back (some x) (some y) h s t = text h s t

module _ (c : LabelledChart) (write : ℕ → ℕ → Option Expr) (sound : (w back : ℕ) → IfText c w back (write w back)) where
  sound_item : (half : Half) (w back n : ℕ) (x : Option (Option Expr)) → InHalf c half w n → IfSum c half w back n x
      → IfSum c half w back (suc n) (plus_all x (item c write back n))
  unfolding item
  sound_item half w back n x h s = elim (ℕ_discrete (c.chart.to n) back) [
    | yes e ↦ rw (eq-eqb (c.chart.to n) back e) (sound_alone c half w back n h x e s)
    | no e ↦
        rw (ne_eqb (c.chart.to n) back e)
        (sound_times c half w back n h x (write (c.chart.to n) back) e s (sound (c.chart.to n) back))
  ]

  sound_sum : (half : Half) (w back n : ℕ) → IfSum c half w back n (sum_of c write half w back n)
  unfolding sum_of
  sound_sum half w back zero = nothing
  sound_sum half w back (suc n) = elim (decided (decides_half c half w n)) [
    | yes h ↦
        rw ((decides_half c half w n).1 h)
        (sound_item half w back n (sum_of c write half w back n) h (sound_sum half w back n))
    | no h ↦
        rw (is_false (decides_half c half w n) h)
        (sound_other c half w back n (sum_of c write half w back n) h (sound_sum half w back n))
  ]

  sound_text : (w back : ℕ) → IfText c w back (star_of c write w back)
  unfolding star_of
  sound_text w back = elim (ℕ_discrete w 0) [
    | yes e ↦ rw (eq-eqb w 0 e) tt
    | no e ↦
        let n = c.chart.count in
        rw (ne_eqb w 0 e)
        (sound_star c w back (sum_of c write entries w w n) (sum_of c write branches w back n) e
        (sound_sum entries w w n) (sound_sum branches w back n))
  ]

if_written : (c : LabelledChart) (f w back : ℕ) → IfText c w back (written c f w back)
unfolding written
if_written c zero w back = tt
if_written c (suc f) w back = sound_text c (written c f) (if_written c f) w back

pub written_sound : (c : LabelledChart) (f w back : ℕ) {e : Expr} → written c f w back ≡ some e → Text c w back e
written_sound c f w back q = rw q at (if_written c f w back)

-- A TEXT IS WRITTEN where the budget reaches its number of nodes
pub size_some : (e : Expr) → 1 ≤ size e
size_some deadlock = omega arith
size_some (act a) = omega arith
size_some (sum e f) = omega arith
size_some (product e f) = omega arith
size_some (star e f) = omega arith

pub plus_sizes : (x : Option Expr) (e : Expr) → (size (total x) ≤ size (plus x e)) × (size e ≤ size (plus x e))
plus_sizes none e = (size_some e, omega arith)
plus_sizes (some d) e = (omega arith, omega arith)

module _ (c : LabelledChart) (write : ℕ → ℕ → Option Expr) (f : ℕ)
    (complete : (w back : ℕ) (e : Expr) → Text c w back e → size e ≤ f → write w back ≡ some e) where
  complete_sum : {half : Half} {w back n : ℕ} {x : Option Expr} → Sum c half w back n x → size (total x) ≤ f
      → sum_of c write half w back n ≡ some x
  unfolding sum_of item
  complete_sum nothing b = refl
  complete_sum (other {half = half} {w = w} {n = n} s h) b = rw (is_false (decides_half c half w n) h) (complete_sum s b)
  complete_sum (alone {half = half} {w = w} {back = back} {n = n} {x = x} s h e) b =
      let z = plus_sizes x (act (c.chart.action n)) in
      rw ((decides_half c half w n).1 h, eq-eqb (c.chart.to n) back e, complete_sum s (omega arith))
  complete_sum (times {half = half} {w = w} {back = back} {n = n} {x = x} {e = g} s h e t) b =
      let z = plus_sizes x (product (act (c.chart.action n)) g) in
      rw (
        (decides_half c half w n).1 h,
        ne_eqb (c.chart.to n) back e,
        complete_sum s (omega arith),
        complete (c.chart.to n) back g t (omega arith),
      )

  complete_text : {w back : ℕ} {e : Expr} → Text c w back e → size e ≤ suc f → star_of c write w back ≡ some e
  unfolding star_of
  complete_text (text {w = w} h s t) b = rw (ne_eqb w 0 h, complete_sum s (omega arith), complete_sum t (omega arith))

pub written_complete : (c : LabelledChart) (f w back : ℕ) (e : Expr) → Text c w back e → size e ≤ f → written c f w back ≡ some e
unfolding written
written_complete c zero w back e t b = absurd (omega (arith, size_some e))
written_complete c (suc f) w back e t b = complete_text c (written c f) f (written_complete c f) t b

-- THERE IS ONE TEXT
pub one_text : {c : LabelledChart} {w back : ℕ} {e g : Expr} → Text c w back e → Text c w back g → e ≡ g
one_text {c} {w} {back} {e} {g} s t =
    some-injective e g
    (sym (written_complete c (size e + size g) w back e s (omega arith))
    ∙ written_complete c (size e + size g) w back g t (omega arith))

pub one_sum : {c : LabelledChart} {half : Half} {w back n : ℕ} {x y : Option Expr}
    → Sum c half w back n x → Sum c half w back n y → x ≡ y
one_sum {c} {half} {w} {back} {n} {x} {y} s t =
    let f = size (total x) + size (total y) in
    some-injective x y
    (sym (complete_sum c (written c f) f (written_complete c f) s (omega arith))
    ∙ complete_sum c (written c f) f (written_complete c f) t (omega arith))

-- THE BUDGET OF NODES: a text with at most n nodes, or every text has more
up_to_fits : (n : ℕ) (x : Option Expr) (e : Expr) → up_to n x ≡ some e → (x ≡ some e) × (size e ≤ n)
up_to_fits n none e q = absurd (none-ne-some e q)
up_to_fits n (some d) e q = elim (dec_le (size d) n) [
  | yes h ↦
      let z = some-injective d e (rw (le-leb (size d) n h) at q) in
      (ap some z, rw (← z) h)
  | no h ↦ absurd (none-ne-some e (rw (is_false (decides_leb (size d) n) h) at q))
]

pub fitting_iff : (c : LabelledChart) (n w back : ℕ) (e : Expr) → (fitting c n w back ≡ some e) ↔ (Text c w back e × (size e ≤ n))
unfolding fitting
fitting_iff c n w back e = (
  (λ q. let (a, b) = up_to_fits n (written c n w back) e q in (written_sound c n w back a, b)),
  (λ (t, b). rw (written_complete c n w back e t b, le-leb (size e) n b)),
)

pub fitting_not : (c : LabelledChart) (n w back : ℕ) → ((e : Expr) → Text c w back e → n < size e) → fitting c n w back ≡ none
fitting_not c n w back h = go (fitting c n w back) refl
  where
    go : (x : Option Expr) → fitting c n w back ≡ x → x ≡ none
    go none q = refl
    go (some e) q = let (t, b) = (fitting_iff c n w back e).0 q in absurd (omega (arith, h e t))

pub fitting_none : (c : LabelledChart) (n w back : ℕ) {e : Expr} → Text c w back e → (fitting c n w back ≡ none) ↔ (n < size e)
fitting_none c n w back {e} t = (
  (λ q. elim (dec_le (size e) n) [
    | yes h ↦ absurd (none-ne-some e (sym q ∙ (fitting_iff c n w back e).1 (t, h)))
    | no h ↦ omega arith
  ]),
  (λ h. fitting_not c n w back (λ g s. rw (one_text s t) h)),
)
