-- Where checks 32 to 35 pass, every vertex but the end has a text, and every vertex inside a loop its inner text; the actions of a
-- text are those of the chart.
use mathlib.Core.Path.{◌≡◌, refl}
use mathlib.Core.Logic.{◌≢◌}
use mathlib.Core.Option.{Option, none, some}
use Prim.Native.Nat.{ℕ, zero, suc, ◌≤◌, ◌<◌}
use native.Mathlib.Omega.{arith}
use native.Mathlib.Decide.{ℕ_discrete}
use Rattle.theory.specs.Expressions.{Expr, act, product}
use Rattle.theory.specs.Paths.{last}
use Rattle.theory.specs.Charts.{Formed, Branch, Loop}
use Rattle.theory.specs.LoopCharts.{InBody, entry, other}
use Rattle.theory.specs.Checks.{Passed}
use Rattle.theory.specs.LabelledCharts.{LabelledChart, labelled_steps, Half, entries, branches, InHalf}
use Rattle.theory.specs.Texts.{plus, total, Text, text, Sum, nothing, alone, times}
use Rattle.theory.specs.Texts as texts
use Rattle.theory.specs.PostOrders.{size, Acting}
use Rattle.theory.proofs.Paths.{plus_snoc, plus_star}
use Rattle.theory.proofs.Tests.{decided}
use Rattle.theory.proofs.Cycles.{each_vertex}
use Rattle.theory.proofs.TextTests.{decides_half, size_some, plus_sizes}

-- A TEXT EXISTS
module _ (c : LabelledChart) where
  abbrev pub HasText : ℕ → ℕ → Type 0
  HasText w back = (e : Expr) × Text c w back e

  -- a sum whose items have their texts, and a star whose sums are there
  has_sum : (half : Half) (w back : ℕ)
      → ((i : ℕ) → i < c.chart.count → InHalf c half w i → c.chart.to i ≢ back → HasText (c.chart.to i) back)
      → (n : ℕ) → n ≤ c.chart.count → (x : Option Expr) × Sum c half w back n x
  has_sum half w back h zero b = (none, nothing)
  has_sum half w back h (suc n) b =
      go (has_sum half w back h n (omega arith)) (decided (decides_half c half w n)) (ℕ_discrete (c.chart.to n) back)
    where
      go : (x : Option Expr) × Sum c half w back n x → Dec (InHalf c half w n) → Dec (c.chart.to n ≡ back)
          → (x : Option Expr) × Sum c half w back (suc n) x
      go (x, s) (no o) d = (x, texts.other s o)
      go (x, s) (yes o) (yes e) = (_, alone s o e)
      go (x, s) (yes o) (no e) = (_, times s o e (h n b o e).1)

  has_star : (w back : ℕ) → w ≢ 0
      → ((i : ℕ) → i < c.chart.count → InHalf c entries w i → c.chart.to i ≢ w → HasText (c.chart.to i) w)
      → ((i : ℕ) → i < c.chart.count → InHalf c branches w i → c.chart.to i ≢ back → HasText (c.chart.to i) back)
      → HasText w back
  has_star w back z l r =
      let (x, s) = has_sum entries w w l c.chart.count (omega arith) in
      let (y, t) = has_sum branches w back r c.chart.count (omega arith) in
      (_, text z s t)

  module _ {vertices : ℕ} (formed : Formed vertices (labelled_steps c)) (passed : Passed (labelled_steps c)) where
    -- along branches, of which none goes round
    later : (P : ℕ → Type 0) → ((w : ℕ) → ((x : ℕ) → Branch (labelled_steps c) w x → P x) → P w) → (w : ℕ) → P w
    later = each_vertex vertices (λ u w. formed.to_vertex u 0 w) passed.c32

    -- inside a loop: the level falls at an entry, and a branch leads to a vertex that comes later
    inner_below : (top v l : ℕ) → l < top → Loop (labelled_steps c) v l
        → (w : ℕ) → InBody (labelled_steps c) v l w → w ≢ v → HasText w v
    inner_below zero v l b o = absurd (omega arith)
    inner_below (suc top) v l b o = later (λ w. InBody (labelled_steps c) v l w → w ≢ v → HasText w v)
        (λ w next p h. has_star w v (λ z. (passed.loops v l o).c34 (rw z at p))
        (λ i k (f, m) g.
        let n : Loop (labelled_steps c) w (c.label i) = (omega arith, c.chart.to i, (i, k, f, refl, refl)) in
        inner_below top w (c.label i) (omega (arith, (passed.loops v l o).c35 w h (plus_star p) (c.label i) n)) n
        (c.chart.to i) (last (entry (i, k, f, refl, refl))) g)
        (λ i k (f, m) g. next (c.chart.to i) (i, k, f, m, refl) (plus_snoc p (other h (i, k, f, m, refl))) g))

    pub has_inner_text : (v l : ℕ) → Loop (labelled_steps c) v l → (w : ℕ) → InBody (labelled_steps c) v l w → w ≢ v → HasText w v
    has_inner_text v l = inner_below (suc l) v l (omega arith)

    pub has_text : (w : ℕ) → w ≢ 0 → HasText w 0
    has_text = later (λ w. w ≢ 0 → HasText w 0)
        (λ w next h. has_star w 0 h
        (λ i k (f, m) g. has_inner_text w (c.label i) (omega arith, c.chart.to i, (i, k, f, refl, refl)) (c.chart.to i)
        (last (entry (i, k, f, refl, refl))) g)
        (λ i k (f, m) g. next (c.chart.to i) (i, k, f, m, refl) g))

-- ITS ACTIONS
module _ (c : LabelledChart) (P : ℕ → Type 0) (acts : (i : ℕ) → i < c.chart.count → P (c.chart.action i)) where
  plus_acting : (x : Option Expr) (e : Expr) → Acting P (total x) → Acting P e → Acting P (plus x e)
  plus_acting none e a b = b
  plus_acting (some d) e a b = (a, b)

  abbrev ActingUpTo : ℕ → Type 0
  ActingUpTo f = (w back : ℕ) (e : Expr) → Text c w back e → size e ≤ f → Acting P e

  sum_acting : (f : ℕ) → ActingUpTo f
      → {half : Half} {w back n : ℕ} {x : Option Expr} → Sum c half w back n x → n ≤ c.chart.count
      → size (total x) ≤ f → Acting P (total x)
  sum_acting f below nothing l b = tt
  sum_acting f below (texts.other s h) l b = sum_acting f below s (omega arith) b
  sum_acting f below (alone {n = n} {x = x} s h e) l b =
      let z = plus_sizes x (act (c.chart.action n)) in
      plus_acting x (act (c.chart.action n)) (sum_acting f below s (omega arith) (omega arith)) (acts n l)
  sum_acting f below (times {back = back} {n = n} {x = x} {e = g} s h e t) l b =
      let z = plus_sizes x (product (act (c.chart.action n)) g) in
      plus_acting x (product (act (c.chart.action n)) g) (sum_acting f below s (omega arith) (omega arith))
      (acts n l, below (c.chart.to n) back g t (omega arith))

  star_acting : (f : ℕ) → ActingUpTo f → {w back : ℕ} {e : Expr} → Text c w back e → size e ≤ suc f → Acting P e
  star_acting f below (text h s r) l =
      (sum_acting f below s (omega arith) (omega arith), sum_acting f below r (omega arith) (omega arith))

  up_to : (f : ℕ) → ActingUpTo f
  up_to zero w back e t b = absurd (omega (arith, size_some e))
  up_to (suc f) w back e t b = star_acting f (up_to f) t b

  pub text_acting : {w back : ℕ} {e : Expr} → Text c w back e → Acting P e
  text_acting {w} {back} {e} t = up_to (size e) w back e t (omega arith)
