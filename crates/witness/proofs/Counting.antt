-- How many pairs pass a test, along a row and over the rows; and the length of a list with every loop once.
use mathlib.Core.Path.{◌≡◌, refl, sym, ◌∙◌, ap, ap₂}
use mathlib.Core.Logic.{◌⊎◌, inl, inr, ⊎_elim}
use mathlib.Core.Bool.{Bool, true, false}
use mathlib.Core.List.Memᴰ
use mathlib.Core.List.{List, [], ◌∷◌, Memᴰ}
use Prim.Native.Nat.{ℕ, zero, suc, ◌+◌, ◌-◌, ◌/◌, ◌%◌, ◌^◌, ◌≤◌, ◌<◌}
use native.Mathlib.Nat.{mod-lt}
use native.Mathlib.Omega.{arith}
use lib.Dec.{eqb}
use lib.ListN.{length, length-append}
use Rattle.bits.specs.Counts.{bits_below}
use Rattle.theory.specs.Charts.{Steps}
use Rattle.theory.specs.Orders.{Distinct, none, one, AllLoops}
use Rattle.theory.specs.Tests.{row_pairs, pairs_from}

module _ (p : ℕ → ℕ → Bool) where
  one_more : (u v k : ℕ) → p u v ≡ true → length (row_pairs p u v (suc k)) ≡ suc (length (row_pairs p u (suc v) k))
  unfolding row_pairs
  one_more u v k e = rw e

  no_more : (u v k : ℕ) → p u v ≡ false → length (row_pairs p u v (suc k)) ≡ length (row_pairs p u (suc v) k)
  unfolding row_pairs
  no_more u v k e = rw e

  remains : (n v : ℕ) → v < n → n - v ≡ suc (n - suc v)
  remains n v h = omega arith

  -- the first m columns, and the n after them
  pub pairs_split : (u v m n : ℕ) → length (row_pairs p u v (m + n)) ≡ length (row_pairs p u v m) + length (row_pairs p u (v + m) n)
  unfolding row_pairs
  pairs_split u v zero n = let e : v + 0 ≡ v = omega arith in let f : 0 + n ≡ n = omega arith in rw (e, f) (omega arith)
  pairs_split u v (suc m) n =
      let e : suc m + n ≡ suc (m + n) = omega arith in
      let f : v + suc m ≡ suc v + m = omega arith in
      rw (e, f) (go (p u v) refl (pairs_split u (suc v) m n))
    where
      go : (c : Bool) → p u v ≡ c → length (row_pairs p u (suc v) (m + n)) ≡ length (row_pairs p u (suc v) m) + length (row_pairs p u (suc v + m) n) → length (row_pairs p u v (suc (m + n))) ≡ length (row_pairs p u v (suc m)) + length (row_pairs p u (suc v + m) n)
      go true e i = let a = one_more u v (m + n) e in let b = one_more u v m e in omega (arith, a, b, i)
      go false e i = let a = no_more u v (m + n) e in let b = no_more u v m e in omega (arith, a, b, i)

  -- columns that pass where a bit of x is set
  pub pairs_bits : (u x n v : ℕ) → ((i : ℕ) → i < n → p u (v + i) ≡ eqb (x / 2 ^ i % 2) 1) → length (row_pairs p u v n) ≡ bits_below x n
  unfolding row_pairs bits_below
  pairs_bits u x zero v f = refl
  pairs_bits u x (suc n) v f =
      let e : n + 1 ≡ suc n = omega arith in
      let s = pairs_split u v n 1 in
      let r = pairs_bits u x n v (λ i h. f i (omega arith)) in
      let l = last (v + n) (x / 2 ^ n % 2) (mod-lt (x / 2 ^ n) (omega arith)) (f n (omega arith)) in
      ap (λ (k : ℕ). length (row_pairs p u v k)) (sym e) ∙ s ∙ ap₂ (λ (a b : ℕ). a + b) r l
    where
      last : (w d : ℕ) → d < 2 → p u w ≡ eqb d 1 → length (row_pairs p u w 1) ≡ d
      last w zero h e = no_more u w 0 e
      last w (suc zero) h e = one_more u w 0 e
      last w (suc (suc d)) h e = absurd (omega arith)

  -- of the rows below n, those from u on
  abbrev pub pairs_left : ℕ → ℕ → ℕ → ℕ
  pairs_left columns n u = length (pairs_from p columns u (n - u))

  pub pairs_one : (columns n u : ℕ) → u < n → pairs_left columns n u ≡ length (row_pairs p u 0 columns) + pairs_left columns n (suc u)
  unfolding pairs_from
  pairs_one columns n u h = rw (remains n u h) (length-append (row_pairs p u 0 columns) (pairs_from p columns (suc u) (n - suc u)))

  -- where no column passes, in one row and in all rows from u on
  pairs_none_in : (u n v : ℕ) → ((c : ℕ) → v ≤ c → c < v + n → p u c ≡ false) → length (row_pairs p u v n) ≡ 0
  unfolding row_pairs
  pairs_none_in u zero v f = refl
  pairs_none_in u (suc n) v f = no_more u v n (f v (omega arith) (omega arith)) ∙ pairs_none_in u n (suc v) (λ c a b. f c (omega arith) (omega arith))

  none_from : (columns k u : ℕ) → ((r c : ℕ) → u ≤ r → r < u + k → c < columns → p r c ≡ false) → length (pairs_from p columns u k) ≡ 0
  unfolding pairs_from
  none_from columns zero u f = refl
  none_from columns (suc k) u f =
      let a = length-append (row_pairs p u 0 columns) (pairs_from p columns (suc u) k) in
      let r = pairs_none_in u columns 0 (λ c g h. f u c (omega arith) (omega arith) (omega arith)) in
      let s = none_from columns k (suc u) (λ r c g h i. f r c (omega arith) (omega arith) i) in
      omega (arith, a, r, s)

  pub pairs_none : (columns n u : ℕ) → ((r c : ℕ) → u ≤ r → r < n → c < columns → p r c ≡ false) → pairs_left columns n u ≡ 0
  pairs_none columns n u f = none_from columns (n - u) u (λ r c g h i. f r c g (omega arith) i)

-- A LIST WITH EVERY MEMBER ONCE has one length
abbrev Pair : Type 0
Pair = ℕ × ℕ

-- a list without one of its members
without : {x : Pair} (ys : List Pair) → Memᴰ x ys → (zs : List Pair) × (length ys ≡ suc (length zs)) × ((z : Pair) → Memᴰ z ys → (z ≡ x) ⊎ Memᴰ z zs)
without [] m = absurd (Memᴰ.not-nil m)
without {x} (y ∷ ys) m = go (without ys) (Memᴰ.cases_cons m)
  where
    go : (Memᴰ x ys → (zs : List Pair) × (length ys ≡ suc (length zs)) × ((z : Pair) → Memᴰ z ys → (z ≡ x) ⊎ Memᴰ z zs)) → (x ≡ y) ⊎ Memᴰ x ys → (zs : List Pair) × (length (y ∷ ys) ≡ suc (length zs)) × ((z : Pair) → Memᴰ z (y ∷ ys) → (z ≡ x) ⊎ Memᴰ z zs)
    go rec (inl e) = (ys, refl, λ z n. ⊎_elim (λ f. inl (f ∙ sym e)) (λ o. inr o) (Memᴰ.cases_cons n))
    go rec (inr o) =
        let (zs, l, f) = rec o in
        (y ∷ zs, ap suc l, λ z n. ⊎_elim (λ e. inr (Memᴰ.head e)) (λ i. ⊎_elim (λ e. inl e) (λ j. inr (Memᴰ.tail j)) (f z i)) (Memᴰ.cases_cons n))

no_longer : {xs : List Pair} → Distinct xs → (ys : List Pair) → ((x : Pair) → Memᴰ x xs → Memᴰ x ys) → length xs ≤ length ys
no_longer none ys f = omega arith
no_longer (one {x = x} {xs = xs} h d) ys f =
    let (zs, l, g) = without ys (f x (Memᴰ.head refl)) in
    let i : length xs ≤ length zs = no_longer d zs (λ z m. ⊎_elim (λ e. absurd (h (Memᴰ.cast (sym e) m))) (λ n. n) (g z (f z (Memᴰ.tail m)))) in
    omega arith

pub loops_length : {S : Steps} {xs ys : List Pair} → AllLoops S xs → AllLoops S ys → length xs ≡ length ys
loops_length {S} {xs} {ys} A B = omega (arith, no_longer A.once ys (λ (v, l) m. B.every v l (A.only v l m)), no_longer B.once xs (λ (v, l) m. A.every v l (B.only v l m)))
