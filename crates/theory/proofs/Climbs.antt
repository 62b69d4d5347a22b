-- The chart read off a table of nodes is the one that document 01 tells: its transitions are those that a leaf among the
-- first actions of a node and the climb from it give.
use Prim.Native.Nat.{ℕ, zero, suc, ◌+◌, ◌<◌, ◌≤◌}
use mathlib.Core.Path.{◌≡◌, refl, ap, sym, ◌∙◌}
use mathlib.Core.Bool.{Bool, true, false}
use mathlib.Core.Logic.{◌⊎◌, inl, inr, ⊎_elim, ◌↔◌}
use mathlib.Core.List.Memᴰ
use mathlib.Core.List.{Memᴰ}
use native.Mathlib.Nat.{eq-or-lt_of_le}
use native.Mathlib.Omega.{arith}
use lib.Dec.{eqb, ltb}
use borrow.Author.Tests.{eqb-true, ltb-true, ltb-false}
use Rattle.theory.specs.Nodes.{Op, op_sum, op_product, op_star, Node, bad, dead, leaf, bin, first, one, uses_in, uses, after, Tree}
use Rattle.theory.specs.ExpressionCharts.{vertex_of, act_of, edge, edges, transitions}
use Rattle.theory.specs.Climbs.{FirstOf, itself, sum_left, sum_right, star_left, star_right, product_left, ClimbsTo, left_of_product, left_of_star, left_of_sum, on_the_right, above_root, LeadsBy}
use Rattle.theory.proofs.Down.{each_node, first_at}
use Rattle.theory.proofs.Up.{after_left, after_right, after_last}
use Rattle.theory.proofs.ExpressionCharts.{transitions→, transitions←}

-- a node that uses j has it for an operand
pub operand : (o : Op) (l r j : ℕ) → 0 < uses_in (bin o l r) j → (l ≡ j) ⊎ (r ≡ j)
operand o l r j h = go (eqb l j) (eqb r j) refl refl h
  where
    go : (a b : Bool) → eqb l j ≡ a → eqb r j ≡ b → 0 < one a + one b → (l ≡ j) ⊎ (r ≡ j)
    go true b p q h = inl (eqb-true l j p)
    go false true p q h = inr (eqb-true r j q)
    go false false p q h = absurd (omega arith)

-- a node that is used has a user
pub user : (nd : ℕ → Node) (n j : ℕ) → 0 < uses nd n j → (p : ℕ) × (p < n) × (0 < uses_in (nd p) j)
unfolding uses
user nd zero j h = absurd (omega arith)
user nd (suc n) j h = go (ltb 0 (uses_in (nd n) j)) refl (user nd n j)
  where
    go : (b : Bool) → ltb 0 (uses_in (nd n) j) ≡ b → (0 < uses nd n j → (p : ℕ) × (p < n) × (0 < uses_in (nd p) j)) → (p : ℕ) × (p < suc n) × (0 < uses_in (nd p) j)
    go true e i = (n, omega arith, ltb-true 0 _ e)
    go false e i = let z = ltb-false 0 (uses_in (nd n) j) e in let u = i (omega arith) in (u.0, omega arith, u.2)

-- node p has j as an operand
abbrev pub Operand : (ℕ → Node) → ℕ → ℕ → Type 0
Operand nd p j = (o : Op) × (l : ℕ) × (r : ℕ) × (nd p ≡ bin o l r) × ((l ≡ j) ⊎ (r ≡ j))

uses→ : (nd : ℕ → Node) (p j : ℕ) (v : Node) → nd p ≡ v → 0 < uses_in v j → Operand nd p j
uses→ nd p j bad e h = absurd (omega arith)
uses→ nd p j dead e h = absurd (omega arith)
uses→ nd p j (leaf a) e h = absurd (omega arith)
uses→ nd p j (bin o l r) e h = (o, l, r, e, operand o l r j h)

pub used→ : (nd : ℕ → Node) (n j : ℕ) → 0 < uses nd n j → (p : ℕ) × (p < n) × Operand nd p j
used→ nd n j h = let (p, q, u) = user nd n j h in (p, q, uses→ nd p j (nd p) refl u)

-- a first action is a leaf
first_acts : {nd : ℕ → Node} {k j : ℕ} → FirstOf nd k j → (a : ℕ) × (nd j ≡ leaf a)
first_acts (itself {a = a} e) = (a, e)
first_acts (sum_left e f) = first_acts f
first_acts (sum_right e f) = first_acts f
first_acts (star_left e f) = first_acts f
first_acts (star_right e f) = first_acts f
first_acts (product_left e f) = first_acts f

module _ (nd : ℕ → Node) (n : ℕ) (tree : Tree nd n) where
  first_low : {k j : ℕ} → k < n → FirstOf nd k j → j < n
  first_low h (itself e) = h
  first_low h (sum_left e f) = first_low (omega (arith, (tree.low _ _ _ _ h e).0)) f
  first_low h (sum_right e f) = first_low (omega (arith, (tree.low _ _ _ _ h e).1)) f
  first_low h (star_left e f) = first_low (omega (arith, (tree.low _ _ _ _ h e).0)) f
  first_low h (star_right e f) = first_low (omega (arith, (tree.low _ _ _ _ h e).1)) f
  first_low h (product_left e f) = first_low (omega (arith, (tree.low _ _ _ _ h e).0)) f

  -- THE FIRST ACTIONS are those listed
  first← : {k j : ℕ} → k < n → FirstOf nd k j → Memᴰ j (first nd k)
  first← {k} {j} h (itself {a = a} e) = rw (first_at nd n tree k h (leaf a) e) (Memᴰ.head refl)
  first← {k} {j} h (sum_left {l = l} {r = r} e f) =
      rw (first_at nd n tree k h (bin op_sum l r) e) (Memᴰ.append_left (first nd r) (first← (omega (arith, (tree.low _ _ _ _ h e).0)) f))
  first← {k} {j} h (sum_right {l = l} {r = r} e f) =
      rw (first_at nd n tree k h (bin op_sum l r) e) (Memᴰ.append_right (first nd l) (first← (omega (arith, (tree.low _ _ _ _ h e).1)) f))
  first← {k} {j} h (star_left {l = l} {r = r} e f) =
      rw (first_at nd n tree k h (bin op_star l r) e) (Memᴰ.append_left (first nd r) (first← (omega (arith, (tree.low _ _ _ _ h e).0)) f))
  first← {k} {j} h (star_right {l = l} {r = r} e f) =
      rw (first_at nd n tree k h (bin op_star l r) e) (Memᴰ.append_right (first nd l) (first← (omega (arith, (tree.low _ _ _ _ h e).1)) f))
  first← {k} {j} h (product_left {l = l} {r = r} e f) =
      rw (first_at nd n tree k h (bin op_product l r) e) (first← (omega (arith, (tree.low _ _ _ _ h e).0)) f)

  AllFirst : ℕ → Type 0
  AllFirst k = (j : ℕ) → Memᴰ j (first nd k) → FirstOf nd k j

  first_node : (k : ℕ) (v : Node) → k < n → nd k ≡ v → ((o : Op) (l r : ℕ) → v ≡ bin o l r → AllFirst l × AllFirst r) → AllFirst k
  unfolding AllFirst
  first_node k bad h e i j m = absurd (Memᴰ.not-nil (rw (first_at nd n tree k h bad e) at m))
  first_node k dead h e i j m = absurd (Memᴰ.not-nil (rw (first_at nd n tree k h dead e) at m))
  first_node k (leaf a) h e i j m =
      let q = Memᴰ.eq_of_singleton (rw (first_at nd n tree k h (leaf a) e) at m) in
      rw q (itself e)
  first_node k (bin op_sum l r) h e i j m = ⊎_elim
      (λ x. sum_left e ((i op_sum l r refl).0 j x))
      (λ x. sum_right e ((i op_sum l r refl).1 j x))
      (Memᴰ.append_cases (first nd l) (rw (first_at nd n tree k h (bin op_sum l r) e) at m))
  first_node k (bin op_product l r) h e i j m =
      product_left e ((i op_product l r refl).0 j (rw (first_at nd n tree k h (bin op_product l r) e) at m))
  first_node k (bin op_star l r) h e i j m = ⊎_elim
      (λ x. star_left e ((i op_star l r refl).0 j x))
      (λ x. star_right e ((i op_star l r refl).1 j x))
      (Memᴰ.append_cases (first nd l) (rw (first_at nd n tree k h (bin op_star l r) e) at m))

  pub first_iff : (k : ℕ) → k < n → (j : ℕ) → Memᴰ j (first nd k) ↔ FirstOf nd k j
  unfolding AllFirst
  first_iff k h j = (each_node nd n tree AllFirst first_node k h j, first← h)

  -- THE CLIMB ends where the first remainder stands, or at the end
  climb_ends : {j t : ℕ} → ClimbsTo nd n j t → t ≡ vertex_of (after nd n j)
  climb_ends (left_of_product {k} {j} {r} h e) = rw (after_left nd n tree k h op_product j r e)
  climb_ends (left_of_star {k} {j} {r} h e) = rw (after_left nd n tree k h op_star j r e)
  climb_ends (left_of_sum {k} {j} {r} h e c) = rw (after_left nd n tree k h op_sum j r e) (climb_ends c)
  climb_ends (on_the_right {k} {j} {l} {o = o} h e c) = rw (after_right nd n tree k h o l j e) (climb_ends c)
  climb_ends (above_root {j} e) = rw (after_last nd n tree j e)

  Climbs : ℕ → Type 0
  Climbs j = ClimbsTo nd n j (vertex_of (after nd n j))

  climb_left : (k : ℕ) → k < n → (o : Op) (l r : ℕ) → nd k ≡ bin o l r → Climbs k → Climbs l
  unfolding Climbs
  climb_left k h op_sum l r e c = rw (after_left nd n tree k h op_sum l r e) (left_of_sum h e c)
  climb_left k h op_product l r e c = rw (after_left nd n tree k h op_product l r e) (left_of_product h e)
  climb_left k h op_star l r e c = rw (after_left nd n tree k h op_star l r e) (left_of_star h e)

  climb_operand : (k j : ℕ) → k < n → Operand nd k j → Climbs k → Climbs j
  unfolding Climbs
  climb_operand k j h (o, l, r, e, inl q) c = rw (← q) (climb_left k h o l r e c)
  climb_operand k j h (o, l, r, e, inr q) c = rw (← q, after_right nd n tree k h o l r e) (on_the_right h e c)

  pub operand_low : (p j : ℕ) → p < n → Operand nd p j → j < p
  operand_low p j h (o, l, r, e, inl q) = let b = tree.low p o l r h e in omega arith
  operand_low p j h (o, l, r, e, inr q) = let b = tree.low p o l r h e in omega arith

  climb : (f j : ℕ) → j < n → n ≤ f + j → Climbs j
  unfolding Climbs
  climb zero j h i = absurd (omega arith)
  climb (suc f) j h i = ⊎_elim
      (λ (e : suc j ≡ n). rw (after_last nd n tree j (sym e)) (above_root (sym e)))
      (λ (d : suc j < n).
      let (p, q, u) = used→ nd n j (omega (arith, tree.once j d)) in
      let b = operand_low p j q u in
      climb_operand p j q u (climb f p q (omega arith)))
      (eq-or-lt_of_le h)

  pub climb_iff : (j t : ℕ) → j < n → ClimbsTo nd n j t ↔ (t ≡ vertex_of (after nd n j))
  unfolding Climbs
  climb_iff j t h = (climb_ends, λ e. rw e (climb n j h (omega arith)))

  -- THE CHART
  acts : {j a : ℕ} → nd j ≡ leaf a → act_of (nd j) ≡ a
  acts e = rw e

  edges→ : (k a t : ℕ) → k < n → Memᴰ (a, t) (edges nd n k) → LeadsBy nd n k a t
  unfolding edges
  edges→ k a t h m =
      let (j, i, e) = Memᴰ.of_map (edge nd n) (first nd k) m in
      let f = (first_iff k h j).0 i in
      let (x, q) = first_acts f in
      let d : x ≡ a = sym (acts q) ∙ ap (λ (y : ℕ × ℕ). y.0) e in
      (j, f, q ∙ ap leaf d, (climb_iff j t (first_low h f)).1 (ap (λ (y : ℕ × ℕ). y.1) (sym e)))

  edges← : (k a t : ℕ) → k < n → LeadsBy nd n k a t → Memᴰ (a, t) (edges nd n k)
  unfolding edges
  edges← k a t h (j, f, e, c) =
      let d : (a, t) ≡ edge nd n j = rw (e, climb_ends c) in
      Memᴰ.cast d (Memᴰ.map (edge nd n) (first← h f))

  pub chart_leads : (k a t : ℕ) → Memᴰ (suc k, a, t) (transitions nd n) ↔ ((k < n) × LeadsBy nd n k a t)
  chart_leads k a t = (there, λ (h, l). transitions← nd n k a t h (edges← k a t h l))
    where
      there : Memᴰ (suc k, a, t) (transitions nd n) → (k < n) × LeadsBy nd n k a t
      there m = let (j, h, e, i) = transitions→ nd n (suc k, a, t) m in at_vertex j h (omega arith) i
        where
          at_vertex : (j : ℕ) → j < n → k ≡ j → Memᴰ (a, t) (edges nd n j) → (k < n) × LeadsBy nd n k a t
          at_vertex j h e i = rw e (h, edges→ j a t h i)

  -- the climb from a leaf ends at one vertex: no vertex that stands for the same will do for it
  pub climb_one : {j t u : ℕ} → ClimbsTo nd n j t → ClimbsTo nd n j u → t ≡ u
  climb_one c d = climb_ends c ∙ sym (climb_ends d)
