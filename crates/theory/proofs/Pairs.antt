-- Lists of pairs: order in a list, members that differ, and the pairs that pass a test.
use mathlib.Core.Path.{◌≡◌, refl, sym, ◌∙◌, ap, subst}
use mathlib.Core.Logic.{◌⊎◌, inl, inr, ⊎_elim}
use mathlib.Core.Bool.{Bool, true, false, cond, false≢true}
use mathlib.Core.List.Memᴰ
use mathlib.Core.List.{List, [], ◌∷◌, ◌++◌, map, Memᴰ}
use Prim.Native.Nat.{ℕ, zero, suc, ◌+◌, ◌≤◌, ◌<◌}
use native.Mathlib.Omega.{arith}
use native.Mathlib.Decide.{ℕ_discrete}
use Rattle.theory.specs.Least.{Earlier}
use Rattle.theory.specs.Orders.{Pair, Distinct, none, one, Before, at_head, further}
use Rattle.theory.specs.Tests.{row_pairs, pairs_from, pairs}

-- LISTS
pub before_cases : {x y z : Pair} {zs : List Pair} → Before x y (z ∷ zs) → ((x ≡ z) × Memᴰ y zs) ⊎ Before x y zs
before_cases (at_head m) = inl (refl, m)
before_cases (further b) = inr b

pub before_second : {x y : Pair} {zs : List Pair} → Before x y zs → Memᴰ y zs
before_second (at_head m) = Memᴰ.tail m
before_second (further b) = Memᴰ.tail (before_second b)

pub before_left : {x y : Pair} {xs : List Pair} (ys : List Pair) → Before x y xs → Before x y (xs ++ ys)
before_left ys (at_head m) = at_head (Memᴰ.append_left ys m)
before_left ys (further b) = further (before_left ys b)

pub before_both : {x y : Pair} (xs : List Pair) {ys : List Pair} → Memᴰ x xs → Memᴰ y ys → Before x y (xs ++ ys)
before_both [] m n = absurd (Memᴰ.not-nil m)
before_both {x} {y} (z ∷ xs) {ys} m n = go (before_both xs) (Memᴰ.cases_cons m)
  where
    go : (Memᴰ x xs → Memᴰ y ys → Before x y (xs ++ ys)) → (x ≡ z) ⊎ Memᴰ x xs → Before x y (z ∷ xs ++ ys)
    go rec (inl e) = rw e (at_head (Memᴰ.append_right xs n))
    go rec (inr i) = further (rec i n)

pub distinct_cons : {x : Pair} {xs : List Pair} → Distinct (x ∷ xs) → (¬ Memᴰ x xs) × Distinct xs
distinct_cons (one h d) = (h, d)

pub distinct_append : {xs ys : List Pair} → Distinct xs → Distinct ys → ((x : Pair) → Memᴰ x xs → ¬ Memᴰ x ys) → Distinct (xs ++ ys)
distinct_append none e h = e
distinct_append {ys = ys} (one {x = x} {xs = xs} g d) e h =
    one (λ m. ⊎_elim g (h x (Memᴰ.head refl)) (Memᴰ.append_cases xs m)) (distinct_append d e (λ y m. h y (Memᴰ.tail m)))

pub before_right : {x y : Pair} (xs : List Pair) {ys : List Pair} → Before x y ys → Before x y (xs ++ ys)
before_right [] b = b
before_right (z ∷ xs) b = further (before_right xs b)

pub before_map : (f : Pair → Pair) {x y : Pair} {xs : List Pair} → Before x y xs → Before (f x) (f y) (map f xs)
before_map f (at_head m) = at_head (Memᴰ.map f m)
before_map f (further b) = further (before_map f b)

pub distinct_map : (f : Pair → Pair) → ((x y : Pair) → f x ≡ f y → x ≡ y) → {xs : List Pair} → Distinct xs → Distinct (map f xs)
distinct_map f i none = none
distinct_map f i (one {x = x} {xs = xs} h d) = one (λ m. let (y, n, e) = Memᴰ.of_map f xs m in h (subst (λ (z : Pair). Memᴰ z xs) (i y x e) n)) (distinct_map f i d)

-- THE PAIRS THAT PASS
module _ (p : ℕ → ℕ → Bool) where
  row→ : (u v n a b : ℕ) → Memᴰ (a, b) (row_pairs p u v n) → (a ≡ u) × (v ≤ b) × (b < v + n) × (p a b ≡ true)
  unfolding row_pairs
  row→ u v zero a b m = absurd (Memᴰ.not-nil m)
  row→ u v (suc n) a b m = go (p u v) refl (row→ u (suc v) n a b) m
    where
      go : (c : Bool) → p u v ≡ c → (Memᴰ (a, b) (row_pairs p u (suc v) n) → (a ≡ u) × (suc v ≤ b) × (b < suc v + n) × (p a b ≡ true)) → Memᴰ (a, b) (cond c ((u, v) ∷ row_pairs p u (suc v) n) (row_pairs p u (suc v) n)) → (a ≡ u) × (v ≤ b) × (b < v + suc n) × (p a b ≡ true)
      go true e rec i = ⊎_elim (λ q. at_first (ap (λ (x : Pair). x.0) q) (ap (λ (x : Pair). x.1) q)) (λ j. let r = rec j in (r.0, omega arith, omega arith, r.3)) (Memᴰ.cases_cons i)
        where
          at_first : a ≡ u → b ≡ v → (a ≡ u) × (v ≤ b) × (b < v + suc n) × (p a b ≡ true)
          at_first g h = (g, omega arith, omega arith, rw (g, h) e)
      go false e rec i = let r = rec i in (r.0, omega arith, omega arith, r.3)

  row← : (u v n b : ℕ) → v ≤ b → b < v + n → p u b ≡ true → Memᴰ (u, b) (row_pairs p u v n)
  unfolding row_pairs
  row← u v zero b g h e = absurd (omega arith)
  row← u v (suc n) b g h e = go (p u v) refl (ℕ_discrete b v) (row← u (suc v) n b)
    where
      go : (c : Bool) → p u v ≡ c → Dec (b ≡ v) → (suc v ≤ b → b < suc v + n → p u b ≡ true → Memᴰ (u, b) (row_pairs p u (suc v) n)) → Memᴰ (u, b) (cond c ((u, v) ∷ row_pairs p u (suc v) n) (row_pairs p u (suc v) n))
      go true q (yes z) rec = Memᴰ.head (ap (λ (x : ℕ). (u, x)) z)
      go true q (no z) rec = Memᴰ.tail (rec (omega arith) (omega arith) e)
      go false q (yes z) rec = absurd (false≢true (sym q ∙ rw (← z) e))
      go false q (no z) rec = rec (omega arith) (omega arith) e

  row_distinct : (u v n : ℕ) → Distinct (row_pairs p u v n)
  unfolding row_pairs
  row_distinct u v zero = none
  row_distinct u v (suc n) = go (p u v) (row_distinct u (suc v) n)
    where
      go : (c : Bool) → Distinct (row_pairs p u (suc v) n) → Distinct (cond c ((u, v) ∷ row_pairs p u (suc v) n) (row_pairs p u (suc v) n))
      go true d = one (λ (m : Memᴰ (u, v) (row_pairs p u (suc v) n)). omega (arith, (row→ u (suc v) n u v m).1)) d
      go false d = d

  row_before : (u v n b d : ℕ) → v ≤ b → b < d → d < v + n → p u b ≡ true → p u d ≡ true → Before (u, b) (u, d) (row_pairs p u v n)
  unfolding row_pairs
  row_before u v zero b d f g h i j = absurd (omega arith)
  row_before u v (suc n) b d f g h i j = go (p u v) refl (ℕ_discrete b v) (row_before u (suc v) n b d)
    where
      go : (c : Bool) → p u v ≡ c → Dec (b ≡ v) → (suc v ≤ b → b < d → d < suc v + n → p u b ≡ true → p u d ≡ true → Before (u, b) (u, d) (row_pairs p u (suc v) n)) → Before (u, b) (u, d) (cond c ((u, v) ∷ row_pairs p u (suc v) n) (row_pairs p u (suc v) n))
      go true q (yes z) rec = rw z (at_head (row← u (suc v) n d (omega arith) (omega arith) j))
      go true q (no z) rec = further (rec (omega arith) g (omega arith) i j)
      go false q (yes z) rec = absurd (false≢true (sym q ∙ rw (← z) i))
      go false q (no z) rec = rec (omega arith) g (omega arith) i j

  from→ : (columns u n a b : ℕ) → Memᴰ (a, b) (pairs_from p columns u n) → (u ≤ a) × (a < u + n) × (b < columns) × (p a b ≡ true)
  unfolding pairs_from
  from→ columns u zero a b m = absurd (Memᴰ.not-nil m)
  from→ columns u (suc n) a b m =
      ⊎_elim (λ i. let r = row→ u 0 columns a b i in (omega (arith, r.0), omega (arith, r.0), omega (arith, r.2), r.3))
      (λ i. let r = from→ columns (suc u) n a b i in (omega arith, omega arith, r.2, r.3))
      (Memᴰ.append_cases (row_pairs p u 0 columns) m)

  from← : (columns u n a b : ℕ) → u ≤ a → a < u + n → b < columns → p a b ≡ true → Memᴰ (a, b) (pairs_from p columns u n)
  unfolding pairs_from
  from← columns u zero a b f g h e = absurd (omega arith)
  from← columns u (suc n) a b f g h e = elim (ℕ_discrete a u) [
    | yes z ↦ rw z (Memᴰ.append_left (pairs_from p columns (suc u) n) (row← u 0 columns b (omega arith) (omega arith) (rw z at e)))
    | no z ↦ Memᴰ.append_right (row_pairs p u 0 columns) (from← columns (suc u) n a b (omega arith) (omega arith) h e)
  ]

  from_distinct : (columns u n : ℕ) → Distinct (pairs_from p columns u n)
  unfolding pairs_from
  from_distinct columns u zero = none
  from_distinct columns u (suc n) = distinct_append (row_distinct u 0 columns) (from_distinct columns (suc u) n) far
    where
      far : (x : Pair) → Memᴰ x (row_pairs p u 0 columns) → ¬ Memᴰ x (pairs_from p columns (suc u) n)
      far (a, b) i j = omega (arith, (row→ u 0 columns a b i).0, (from→ columns (suc u) n a b j).0)

  from_before : (columns u n a b c d : ℕ) → Earlier a b c d → u ≤ a → c < u + n → b < columns → d < columns → p a b ≡ true → p c d ≡ true → Before (a, b) (c, d) (pairs_from p columns u n)
  unfolding pairs_from
  from_before columns u zero a b c d e f g h i j k = absurd (⊎_elim (λ (q : a < c). let z : ⊥ = omega arith in z) (λ (q : (a ≡ c) × (b < d)). let z : ⊥ = omega arith in z) e)
  from_before columns u (suc n) a b c d e f g h i j k = go (ℕ_discrete a u) (ℕ_discrete c u) e (from_before columns (suc u) n a b c d e)
    where
      go : Dec (a ≡ u) → Dec (c ≡ u) → Earlier a b c d → (suc u ≤ a → c < suc u + n → b < columns → d < columns → p a b ≡ true → p c d ≡ true → Before (a, b) (c, d) (pairs_from p columns (suc u) n)) → Before (a, b) (c, d) (row_pairs p u 0 columns ++ pairs_from p columns (suc u) n)
      go (yes y) (yes z) (inl q) rec = absurd (omega arith)
      go (yes y) (yes z) (inr (q, r)) rec = rw (y, z) (before_left (pairs_from p columns (suc u) n) (row_before u 0 columns b d (omega arith) r (omega arith) (rw y at j) (rw z at k)))
      go (yes y) (no z) q rec = before_both (row_pairs p u 0 columns) (rw y (row← u 0 columns b (omega arith) (omega arith) (rw y at j))) (from← columns (suc u) n c d (⊎_elim (λ (r : a < c). omega arith) (λ (r : (a ≡ c) × (b < d)). absurd (z (sym r.0 ∙ y))) q) (omega arith) i k)
      go (no y) z q rec = before_right (row_pairs p u 0 columns) (rec (omega arith) (omega arith) h i j k)

  module _ (rows columns : ℕ) where
    pub pairs→ : (a b : ℕ) → Memᴰ (a, b) (pairs p rows columns) → (a < rows) × (b < columns) × (p a b ≡ true)
    unfolding pairs
    pairs→ a b m = let r = from→ columns 0 rows a b m in (omega arith, r.2, r.3)

    pub pairs← : (a b : ℕ) → (a < rows) × (b < columns) → p a b ≡ true → Memᴰ (a, b) (pairs p rows columns)
    unfolding pairs
    pairs← a b h e = from← columns 0 rows a b (omega arith) (omega arith) h.1 e

    pub pairs_distinct : Distinct (pairs p rows columns)
    unfolding pairs
    pairs_distinct = from_distinct columns 0 rows

    pub pairs_before : (a b c d : ℕ) → Earlier a b c d → (a < rows) × (b < columns) → p a b ≡ true → (c < rows) × (d < columns) → p c d ≡ true → Before (a, b) (c, d) (pairs p rows columns)
    unfolding pairs
    pairs_before a b c d e f g h i = from_before columns 0 rows a b c d e (omega arith) (omega arith) f.1 h.1 g i
