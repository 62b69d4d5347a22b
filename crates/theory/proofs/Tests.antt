-- Tests put together decide statements put together.
use mathlib.Core.Path.{◌≡◌, refl, sym, ◌∙◌, subst}
use mathlib.Core.Logic.{◌⊎◌, inl, inr, ⊎_elim, ◌↔◌}
use mathlib.Core.Bool.{Bool, true, false, cond, ◌&&◌, ◌||◌, not, false≢true}
use mathlib.Core.List.Memᴰ
use mathlib.Core.List.{List, [], ◌∷◌, Memᴰ}
use Prim.Native.Nat.{ℕ, zero, suc, ◌≤◌, ◌<◌}
use native.Mathlib.Omega.{arith}
use native.Mathlib.Decide.{ℕ_discrete}
use lib.Dec.{eqb, ltb, leb}
use borrow.Author.Tests.{eqb-true, eq-eqb, ltb-true, lt-ltb, leb-true, le-leb}
use Rattle.theory.specs.Least.{Least, FirstPair}
use Rattle.theory.specs.Tests.{Decides, some_below, some_in, lowest, Stops, first_row}

pub decided : {b : Bool} {P : Type 0} → Decides b P → Dec P
decided {b} {P} d = go b d
  where
    go : (c : Bool) → Decides c P → Dec P
    go true e = yes (e.0 refl)
    go false e = no (λ p. false≢true (e.1 p))

-- a decision as a test
pub test_of : {P : Type 0} → Dec P → Bool
test_of (yes p) = true
test_of (no h) = false

pub decides_dec : {P : Type 0} (d : Dec P) → Decides (test_of d) P
unfolding test_of
decides_dec (yes p) = ((λ e. p), (λ q. refl))
decides_dec (no h) = ((λ e. absurd (false≢true e)), (λ p. absurd (h p)))

pub is_false : {b : Bool} {P : Type 0} → Decides b P → ¬ P → b ≡ false
is_false {b} {P} d h = go b d
  where
    go : (c : Bool) → Decides c P → c ≡ false
    go true e = absurd (h (e.0 refl))
    go false e = refl

pub not_so : {b : Bool} {P : Type 0} → Decides b P → b ≡ false → ¬ P
not_so d e p = false≢true (sym e ∙ d.1 p)

pub decides_same : {b : Bool} {P Q : Type 0} → P ↔ Q → Decides b P → Decides b Q
decides_same h d = ((λ e. h.0 (d.0 e)), (λ q. d.1 (h.1 q)))

pub decides_and : {a b : Bool} {P Q : Type 0} → Decides a P → Decides b Q → Decides (a && b) (P × Q)
decides_and {a} {b} {P} {Q} d e = (to a d, λ (p, q). from a (d.1 p) (e.1 q))
  where
    to : (c : Bool) → Decides c P → c && b ≡ true → P × Q
    to true f h = (f.0 refl, e.0 h)
    to false f h = absurd (false≢true h)

    from : (c : Bool) → c ≡ true → b ≡ true → c && b ≡ true
    from true h g = g
    from false h g = absurd (false≢true h)

pub decides_or : {a b : Bool} {P Q : Type 0} → Decides a P → Decides b Q → Decides (a || b) (P ⊎ Q)
decides_or {a} {b} {P} {Q} d e = (to a d, ⊎_elim (λ p. left a (d.1 p)) (λ q. right a (e.1 q)))
  where
    to : (c : Bool) → Decides c P → c || b ≡ true → P ⊎ Q
    to true f h = inl (f.0 refl)
    to false f h = inr (e.0 h)

    left : (c : Bool) → c ≡ true → c || b ≡ true
    left true h = refl
    left false h = absurd (false≢true h)

    right : (c : Bool) → b ≡ true → c || b ≡ true
    right true h = refl
    right false h = h

pub decides_not : {a : Bool} {P : Type 0} → Decides a P → Decides (not a) (¬ P)
decides_not {a} {P} d = (to a d, from a d)
  where
    to : (c : Bool) → Decides c P → not c ≡ true → ¬ P
    to true f h p = false≢true h
    to false f h p = false≢true (f.1 p)

    from : (c : Bool) → Decides c P → ¬ P → not c ≡ true
    from true f h = absurd (h (f.0 refl))
    from false f h = refl

pub decides_eqb : (a b : ℕ) → Decides (eqb a b) (a ≡ b)
decides_eqb a b = (eqb-true a b, eq-eqb a b)

pub decides_ltb : (a b : ℕ) → Decides (ltb a b) (a < b)
decides_ltb a b = (ltb-true a b, lt-ltb a b)

pub decides_leb : (a b : ℕ) → Decides (leb a b) (a ≤ b)
decides_leb a b = (leb-true a b, le-leb a b)

-- either of two tests, by which of two cases holds
pub decides_cond : {c a b : Bool} {C R : Type 0} → Decides c C → (C → Decides a R) → (¬ C → Decides b R) → Decides (cond c a b) R
decides_cond {c} {a} {b} {C} {R} d f g = go c d
  where
    go : (x : Bool) → Decides x C → Decides (cond x a b) R
    go true e = f (e.0 refl)
    go false e = g (not_so e refl)

pub decides_below : {p : ℕ → Bool} {P : ℕ → Type 0} → ((k : ℕ) → Decides (p k) (P k)) → (n : ℕ) → Decides (some_below p n) ((k : ℕ) × (k < n) × P k)
unfolding some_below
decides_below d zero = ((λ e. absurd (false≢true e)), (λ (k, h, q). absurd (omega arith)))
decides_below {p} {P} d (suc n) = decides_same (to, from) (decides_or (d n) (decides_below d n))
  where
    to : P n ⊎ ((k : ℕ) × (k < n) × P k) → (k : ℕ) × (k < suc n) × P k
    to (inl q) = (n, omega arith, q)
    to (inr (k, h, q)) = (k, omega arith, q)

    from : (k : ℕ) × (k < suc n) × P k → P n ⊎ ((k : ℕ) × (k < n) × P k)
    from (k, h, q) = elim (ℕ_discrete k n) [ yes e ↦ inl (subst P e q) | no e ↦ inr (k, omega arith, q) ]

pub decides_in : {A : Type 0} {p : A → Bool} {P : A → Type 0} → ((x : A) → Decides (p x) (P x)) → (l : List A)
    → Decides (some_in p l) ((x : A) × Memᴰ x l × P x)
unfolding some_in
decides_in d [] = ((λ e. absurd (false≢true e)), (λ (x, h, q). absurd (Memᴰ.not-nil h)))
decides_in {A} {p} {P} d (y ∷ l) = decides_same (to, from) (decides_or (d y) (decides_in d l))
  where
    to : P y ⊎ ((x : A) × Memᴰ x l × P x) → (x : A) × Memᴰ x (y ∷ l) × P x
    to (inl q) = (y, Memᴰ.head refl, q)
    to (inr (x, h, q)) = (x, Memᴰ.tail h, q)

    from : (x : A) × Memᴰ x (y ∷ l) × P x → P y ⊎ ((x : A) × Memᴰ x l × P x)
    from (x, h, q) = ⊎_elim (λ (e : x ≡ y). inl (subst P e q)) (λ i. inr (x, i, q)) (Memᴰ.cases_cons h)

pub decides_listed : (a : ℕ) (l : List ℕ) → Decides (some_in (eqb a) l) (Memᴰ a l)
decides_listed a l = decides_same ((λ (b, h, e). Memᴰ.cast e h), (λ h. (a, h, refl))) (decides_in (decides_eqb a) l)

pub lowest_stops : (p : ℕ → Bool) (i n : ℕ) → Stops p i n (lowest p i n)
unfolding lowest
lowest_stops p i zero = record { from = omega arith; within = omega arith; passes = λ h. absurd (omega arith); below = λ k a b. absurd (omega arith) }
lowest_stops p i (suc n) = go (p i) refl (lowest_stops p (suc i) n)
  where
    go : (b : Bool) → p i ≡ b → Stops p (suc i) n (lowest p (suc i) n) → Stops p i (suc n) (cond b i (lowest p (suc i) n))
    go true e s = record { from = omega arith; within = omega arith; passes = λ h. e; below = λ k a b. absurd (omega arith) }
    go false e s = record {
      from = omega (arith, s.from);
      within = omega (arith, s.within);
      passes = λ h. s.passes (omega arith);
      below = λ k a b. elim (ℕ_discrete k i) [ yes q ↦ rw q e | no q ↦ s.below k (omega arith) b ];
    }

-- the lowest with P, or none has it
pub stops_least : {p : ℕ → Bool} {P : ℕ → Type 0} → ((k : ℕ) → Decides (p k) (P k)) → {n r : ℕ} → Stops p 0 n r → (r < n → Least P r) × (n ≤ r → (k : ℕ) → k < n → ¬ P k)
stops_least d s = (
  (λ h. record { holds = (d _).0 (s.passes (omega arith)); lowest = λ k l. not_so (d k) (s.below k (omega arith) l) }),
  (λ h k l. not_so (d k) (s.below k (omega arith) (omega arith))),
)

-- the first pair with P, or none has it
pub first_pair : {p : ℕ → ℕ → Bool} {P : ℕ → ℕ → Type 0} → ((u v : ℕ) → Decides (p u v) (P u v)) → (rows columns : ℕ) → ((u v : ℕ) → P u v → (u < rows) × (v < columns)) → (first_row p rows columns < rows → FirstPair P (first_row p rows columns) (lowest (p (first_row p rows columns)) 0 columns)) × (rows ≤ first_row p rows columns → (u v : ℕ) → ¬ P u v)
unfolding first_row
first_pair {p} {P} d rows columns low = (first, λ h u v q. row.1 h u (low u v q).0 (v, (low u v q).1, q))
  where
    r : ℕ
    r = lowest (λ u. some_below (p u) columns) 0 rows

    c : ℕ
    c = lowest (p r) 0 columns

    row : (r < rows → Least (λ u. (v : ℕ) × (v < columns) × P u v) r) × (rows ≤ r → (k : ℕ) → k < rows → ¬ ((v : ℕ) × (v < columns) × P k v))
    row = stops_least (λ u. decides_below (d u) columns) (lowest_stops (λ u. some_below (p u) columns) 0 rows)

    column : (c < columns → Least (P r) c) × (columns ≤ c → (k : ℕ) → k < columns → ¬ P r k)
    column = stops_least (d r) (lowest_stops (p r) 0 columns)

    go : Least (λ u. (v : ℕ) × (v < columns) × P u v) r → Dec (c < columns) → FirstPair P r c
    go h (no g) = let (v, b, q) = h.holds in absurd (column.1 (omega arith) v b q)
    go h (yes g) = record {
      holds = (column.0 g).holds;
      earlier = λ a b e q. ⊎_elim (λ k. h.lowest a k (b, (low a b q).1, q)) (λ (k, l). (column.0 g).lowest b l (subst (λ (x : ℕ). P x b) k q)) e;
    }

    first : r < rows → FirstPair P r c
    first h = go (row.0 h) (decided (decides_ltb c columns))
