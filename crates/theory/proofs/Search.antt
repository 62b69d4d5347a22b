-- Searches below a bound, the lowest number with a property, and the pigeonhole principle.
use mathlib.Core.Path.{◌≡◌, refl, sym, subst}
use mathlib.Core.Logic.{◌≢◌, ◌⊎◌, inl, inr}
use Prim.Native.Nat.{ℕ, zero, suc, ◌≤◌, ◌<◌}
use native.Mathlib.Omega.{arith}
use native.Mathlib.Decide.{ℕ_discrete, dec_lt}
use Rattle.theory.specs.Least.{Least, Earlier}

-- the lowest number below n with P, or none has it
pub least_below : {P : ℕ → Type 0} → ((k : ℕ) → Dec (P k)) → (n : ℕ) → ((p : ℕ) × (p < n) × Least P p) ⊎ ((k : ℕ) → k < n → ¬ P k)
least_below d zero = inr (λ k h p. omega arith)
least_below {P} d (suc n) = go (least_below d n) (d n)
  where
    go : ((p : ℕ) × (p < n) × Least P p) ⊎ ((k : ℕ) → k < n → ¬ P k) → Dec (P n) → ((p : ℕ) × (p < suc n) × Least P p) ⊎ ((k : ℕ) → k < suc n → ¬ P k)
    go (inl (k, h, p)) q = inl (k, omega arith, p)
    go (inr h) (yes p) = inl (n, omega arith, record { holds = p; lowest = h })
    go (inr h) (no q) = inr (λ k l p. elim (ℕ_discrete k n) [ yes e ↦ q (subst P e p) | no e ↦ h k (omega arith) p ])

-- is there a number below n with P? If not, none has it
pub look_below : {P : ℕ → Type 0} → ((k : ℕ) → Dec (P k)) → (n : ℕ) → ((k : ℕ) × (k < n) × P k) ⊎ ((k : ℕ) → k < n → ¬ P k)
look_below d n = elim (least_below d n) [ inl (k, h, p) ↦ inl (k, h, p.holds) | inr h ↦ inr h ]

-- the lowest number with P is one
pub least_one : {P : ℕ → Type 0} {p q : ℕ} → Least P p → Least P q → p ≡ q
least_one {P} {p} {q} a b = go (dec_lt p q) (dec_lt q p)
  where
    go : Dec (p < q) → Dec (q < p) → p ≡ q
    go (yes h) d = absurd (b.lowest p h a.holds)
    go (no h) (yes g) = absurd (a.lowest q g b.holds)
    go (no h) (no g) = omega arith

-- two pairs are the same, or one comes before the other
pub same_or_earlier : (v l w m : ℕ) → ((v ≡ w) × (l ≡ m)) ⊎ (Earlier v l w m ⊎ Earlier w m v l)
same_or_earlier v l w m = go (ℕ_discrete v w) (ℕ_discrete l m) (dec_lt v w) (dec_lt l m)
  where
    go : Dec (v ≡ w) → Dec (l ≡ m) → Dec (v < w) → Dec (l < m) → ((v ≡ w) × (l ≡ m)) ⊎ (Earlier v l w m ⊎ Earlier w m v l)
    go (yes a) (yes b) c d = inl (a, b)
    go (yes a) (no b) c (yes d) = inr (inl (inr (a, d)))
    go (yes a) (no b) c (no d) = inr (inr (inr (sym a, omega arith)))
    go (no a) b (yes c) d = inr (inl (inl c))
    go (no a) b (no c) d = inr (inr (inl (omega arith)))

-- x, or v in place of n
swapped : (n v x : ℕ) → (y : ℕ) × (((x ≡ n) × (y ≡ v)) ⊎ ((x ≢ n) × (y ≡ x)))
swapped n v x = elim (ℕ_discrete x n) [ yes e ↦ (v, inl (e, refl)) | no e ↦ (x, inr (e, refl)) ]

abbrev Pair : (n : ℕ) (g : ℕ → ℕ) → Type 0
Pair n g = (i j : ℕ) × (i < j) × (j ≤ n) × (g i ≡ g j)

-- among suc n numbers below n two are equal
pub pigeonhole : (n : ℕ) (g : ℕ → ℕ) → ((i : ℕ) → i ≤ n → g i < n) → (i j : ℕ) × (i < j) × (j ≤ n) × (g i ≡ g j)
pigeonhole zero g h = absurd (omega (arith, h 0 (omega arith)))
pigeonhole (suc n) g h = go (pigeonhole n) (look_below (λ k. ℕ_discrete (g k) v) (suc n))
  where
    v : ℕ
    v = g (suc n)

    g' : ℕ → ℕ
    g' i = (swapped n v (g i)).0

    go : ((f : ℕ → ℕ) → ((i : ℕ) → i ≤ n → f i < n) → Pair n f) → ((k : ℕ) × (k < suc n) × (g k ≡ v)) ⊎ ((k : ℕ) → k < suc n → g k ≢ v) → Pair (suc n) g
    go rec (inl (k, l, e)) = (k, suc n, l, omega arith, e)
    go rec (inr none) = pick (rec g' small)
      where
        small : (i : ℕ) → i ≤ n → g' i < n
        small i l = elim (swapped n v (g i)).1 [
          | inl c ↦ omega (arith, none i (omega arith), h (suc n) (omega arith))
          | inr c ↦ omega (arith, h i (omega arith))
        ]

        pick : Pair n g' → Pair (suc n) g
        pick (i, j, l, m, e) = cases (swapped n v (g i)).1 (swapped n v (g j)).1
          where
            cases : ((g i ≡ n) × (g' i ≡ v)) ⊎ ((g i ≢ n) × (g' i ≡ g i)) → ((g j ≡ n) × (g' j ≡ v)) ⊎ ((g j ≢ n) × (g' j ≡ g j)) → Pair (suc n) g
            cases (inl a) (inl b) = (i, j, l, omega arith, omega arith)
            cases (inl a) (inr b) = absurd (none j (omega arith) (omega arith))
            cases (inr a) (inl b) = absurd (none i (omega arith) (omega arith))
            cases (inr a) (inr b) = (i, j, l, omega arith, omega arith)
