-- A grown table is a forest, and a forest with one root is a tree whose root is its last node.
use mathlib.Core.Path.{◌≡◌, refl, ap}
use mathlib.Core.Logic.{◌⊎◌, inl, inr, ⊎_elim, by_cases, ◌≢◌}
use mathlib.Core.List.{List, [], ◌∷◌, ◌++◌}
use Prim.Native.Nat.{ℕ, zero, suc, ◌+◌, ◌<◌, ◌≤◌}
use native.Mathlib.Nat.{eq-or-lt_of_le, le_of_suc-le-suc}
use native.Mathlib.Decide.{ℕ_discrete, dec_lt}
use native.Mathlib.Omega.{arith}
use lib.Dec.{eqb}
use borrow.Author.Tests.{eq-eqb, ne_eqb}
use Rattle.theory.specs.Nodes.{Op, Node, bad, dead, leaf, bin, one, uses_in, uses, Tree}
use Rattle.theory.specs.Forests.{occurs, Forest, Plain, Grown, empty, plant, join}

-- OCCURRENCES
pub occurs_append : (j : ℕ) (xs ys : List ℕ) → occurs j (xs ++ ys) ≡ occurs j xs + occurs j ys
unfolding occurs
occurs_append j [] ys = omega arith
occurs_append j (x ∷ xs) ys = let i = occurs_append j xs ys in omega arith

pub occurs_cons : (j x : ℕ) (xs : List ℕ) → occurs j (x ∷ xs) ≡ one (eqb x j) + occurs j xs
unfolding occurs
occurs_cons j x xs = refl

occurs_none : (j : ℕ) → occurs j [] ≡ 0
unfolding occurs
occurs_none j = refl

occurs_self : (x : ℕ) (xs ys : List ℕ) → 0 < occurs x (xs ++ x ∷ ys)
occurs_self x xs ys = rw (occurs_append x xs (x ∷ ys), occurs_cons x x ys, eq-eqb x x refl) (omega arith)

-- USES
plain_unused : (v : Node) (j : ℕ) → Plain v → uses_in v j ≡ 0
plain_unused bad j p = absurd p
plain_unused dead j p = refl
plain_unused (leaf a) j p = refl
plain_unused (bin o l r) j p = absurd p

plain_not_bin : (v : Node) {o : Op} {l r : ℕ} → Plain v → v ≢ bin o l r
plain_not_bin v p e = rw e at p

uses_suc : (nd : ℕ → Node) (n j : ℕ) → uses nd (suc n) j ≡ uses nd n j + uses_in (nd n) j
unfolding uses
uses_suc nd n j = refl

uses_zero : (nd : ℕ → Node) (j : ℕ) → uses nd 0 j ≡ 0
unfolding uses
uses_zero nd j = refl

-- the one node more
low_more : {nd : ℕ → Node} {n : ℕ} → ((k : ℕ) (o : Op) (l r : ℕ) → k < n → nd k ≡ bin o l r → (l < k) × (r < k))
    → ((o : Op) (l r : ℕ) → nd n ≡ bin o l r → (l < n) × (r < n))
    → (k : ℕ) (o : Op) (l r : ℕ) → k < suc n → nd k ≡ bin o l r → (l < k) × (r < k)
low_more {nd} {n} below here k o l r h e =
    ⊎_elim
    (λ (q : k ≡ n). rw q (here o l r (rw q at e)))
    (λ (q : k < n). below k o l r q e)
    (eq-or-lt_of_le (le_of_suc-le-suc h))

pub empty_forest : (nd : ℕ → Node) → Forest nd 0 []
empty_forest nd = record {
  low = λ k o l r h e. absurd (omega arith);
  once = λ j h. absurd (omega arith);
  none = λ j h. rw (uses_zero nd j, occurs_none j);
}

-- at the node that comes, and elsewhere
at_new : (n j : ℕ) → ((n ≡ j) × (one (eqb n j) ≡ 1)) ⊎ ((n ≢ j) × (one (eqb n j) ≡ 0))
at_new n j = by_cases (ℕ_discrete n j) (λ e. inl (e, ap one (eq-eqb n j e))) (λ d. inr (d, ap one (ne_eqb n j d)))

-- the counts after a node that takes the place of what it uses: one more at its own number, as before elsewhere
counted : {nd : ℕ → Node} {n : ℕ} {row : List ℕ} (row' : List ℕ) → Forest nd n row
    → ((j : ℕ) → uses nd (suc n) j + occurs j row' ≡ (uses nd n j + occurs j row) + one (eqb n j))
    → ((j : ℕ) → j < suc n → uses nd (suc n) j + occurs j row' ≡ 1) × ((j : ℕ) → suc n ≤ j → uses nd (suc n) j + occurs j row' ≡ 0)
counted {nd} {n} {row} row' f h = (below, above)
  where
    below : (j : ℕ) → j < suc n → uses nd (suc n) j + occurs j row' ≡ 1
    below j b = elim (at_new n j) [
      | inl q ↦ omega (arith, h j, f.none j (omega arith))
      | inr q ↦ omega (arith, h j, f.once j (omega arith))
    ]

    above : (j : ℕ) → suc n ≤ j → uses nd (suc n) j + occurs j row' ≡ 0
    above j b = elim (at_new n j) [
      | inl q ↦ absurd (omega arith)
      | inr q ↦ omega (arith, h j, f.none j (omega arith))
    ]

pub plant_forest : {nd : ℕ → Node} {n : ℕ} {row : List ℕ} → Plain (nd n) → Forest nd n row → Forest nd (suc n) (row ++ n ∷ [])
plant_forest {nd} {n} {row} p f =
    let (b, a) = counted (row ++ n ∷ []) f (λ j.
    omega (arith, uses_suc nd n j, plain_unused (nd n) j p, occurs_append j row (n ∷ []), occurs_cons j n [], occurs_none j)) in
    record { low = low_more f.low (λ o l r e. absurd (plain_not_bin (nd n) p e)); once = b; none = a }

-- a number that stands in the row is that of a node
root_below : {nd : ℕ → Node} {n : ℕ} {row : List ℕ} → Forest nd n row → (j : ℕ) → 0 < occurs j row → j < n
root_below {n = n} f j h = by_cases (dec_lt j n) (λ l. l) (λ g. absurd (omega (arith, f.none j (omega arith))))

pub join_forest : {nd : ℕ → Node} {n : ℕ} {o : Op} {l r : ℕ} (xs ys : List ℕ) → nd n ≡ bin o l r
    → Forest nd n (xs ++ l ∷ r ∷ ys) → Forest nd (suc n) (xs ++ n ∷ ys)
join_forest {nd} {n} {o} {l} {r} xs ys e f =
    let (b, a) = counted (xs ++ n ∷ ys) f (λ j.
    let u : uses_in (nd n) j ≡ one (eqb l j) + one (eqb r j) = rw e in
    omega (
      arith,
      uses_suc nd n j,
      occurs_append j xs (l ∷ r ∷ ys),
      occurs_cons j l (r ∷ ys),
      occurs_cons j r ys,
      occurs_append j xs (n ∷ ys),
      occurs_cons j n ys,
    )) in
    record { low = low_more f.low lower; once = b; none = a }
  where
    lower : (q : Op) (x y : ℕ) → nd n ≡ bin q x y → (x < n) × (y < n)
    lower q x y g =
        let a : l < n = root_below f l (occurs_self l xs (r ∷ ys)) in
        let b : r < n = root_below f r
        (rw (occurs_append r xs (l ∷ r ∷ ys), occurs_cons r l (r ∷ ys), occurs_cons r r ys, eq-eqb r r refl) (omega arith)) in
        let c : x ≡ l = cc in
        let d : y ≡ r = cc in
        (omega arith, omega arith)

pub grown_forest : {nd : ℕ → Node} {n : ℕ} {row : List ℕ} → Grown nd n row → Forest nd n row
grown_forest {nd} empty = empty_forest nd
grown_forest (plant p g) = plant_forest p (grown_forest g)
grown_forest (join xs ys e g) = join_forest xs ys e (grown_forest g)

-- no node uses the last one
last_unused : {nd : ℕ → Node} (n j : ℕ)
    → ((k : ℕ) (o : Op) (l r : ℕ) → k < n → nd k ≡ bin o l r → (l < k) × (r < k)) → n ≤ suc j → uses nd n j ≡ 0
last_unused {nd} zero j low h = uses_zero nd j
last_unused {nd} (suc n) j low h =
    omega (arith, uses_suc nd n j, last_unused {nd = nd} n j (λ k o l r b. low k o l r (omega arith)) (omega arith), at_node (nd n) refl)
  where
    at_node : (v : Node) → nd n ≡ v → uses_in v j ≡ 0
    at_node bad e = refl
    at_node dead e = refl
    at_node (leaf a) e = refl
    at_node (bin o l r) e =
        let b = low n o l r (omega arith) e in
        rw (ne_eqb l j (λ q. omega arith), ne_eqb r j (λ q. omega arith))

-- the last node is a root
pub last_root : {nd : ℕ → Node} {n : ℕ} {row : List ℕ} → Forest nd (suc n) row → occurs n row ≡ 1
last_root {n = n} f = omega (arith, f.once n (omega arith), last_unused (suc n) n f.low (omega arith))

-- ONE ROOT: a tree
pub one_root : {nd : ℕ → Node} {n r : ℕ} → Forest nd n (r ∷ []) → suc r ≡ n
one_root {n = zero} {r = r} f = absurd (omega (arith, root_below f r (occurs_self r [] [])))
one_root {n = suc n} {r = r} f = elim (at_new r n) [
  | inl q ↦ omega arith
  | inr q ↦ absurd (omega (arith, last_root f, occurs_cons n r [], occurs_none n))
]

pub forest_tree : {nd : ℕ → Node} {n r : ℕ} → Forest nd n (r ∷ []) → Tree nd n
forest_tree {nd} {n} {r} f = record { low = f.low; once = single }
  where
    single : (j : ℕ) → suc j < n → uses nd n j ≡ 1
    single j h = elim (at_new r j) [
      | inl q ↦ absurd (omega (arith, one_root f))
      | inr q ↦ omega (arith, f.once j (omega arith), occurs_cons j r [], occurs_none j)
    ]

pub grown_tree : {nd : ℕ → Node} {n r : ℕ} → Grown nd n (r ∷ []) → (suc r ≡ n) × Tree nd n
grown_tree g = (one_root (grown_forest g), forest_tree (grown_forest g))
