-- What the fields of a transition of the expression's chart can be.
use Prim.Native.Nat.{ℕ, ◌<◌, ◌≤◌}
use mathlib.Core.Path.{◌≡◌, refl, ap, sym, ◌∙◌}
use mathlib.Core.Logic.{⊎_elim}
use mathlib.Core.List.Memᴰ
use mathlib.Core.List.{List, [], ◌∷◌, Memᴰ}
use native.Mathlib.Omega.{arith}
use Rattle.theory.specs.Nodes.{Op, op_sum, op_product, op_star, Node, bad, dead, leaf, bin, join, first, after, IsLeaf, LeafAction, Tree}
use Rattle.theory.specs.Transitions.{Transition}
use Rattle.theory.specs.ExpressionCharts.{vertex_of, edge, edges, transitions}
use Rattle.theory.proofs.Down.{each_node, first_at}
use Rattle.theory.proofs.Up.{Chain, chain}
use Rattle.theory.proofs.ExpressionCharts.{transitions→}

module _ (nd : ℕ → Node) (n : ℕ) (tree : Tree nd n) where
  -- the first actions of a node are those of leaves
  module _ (j : ℕ) where
    Leads : ℕ → Type 0
    Leads k = Memᴰ j (first nd k) → IsLeaf nd n j

    at_node : (k : ℕ) (v : Node) → k < n → nd k ≡ v → ((o : Op) (l r : ℕ) → v ≡ bin o l r → Leads l × Leads r) → Leads k
    unfolding Leads
    at_node k bad h e i m = absurd (Memᴰ.not-nil (rw (first_at nd n tree k h bad e) at m))
    at_node k dead h e i m = absurd (Memᴰ.not-nil (rw (first_at nd n tree k h dead e) at m))
    at_node k (leaf a) h e i m = let q = Memᴰ.eq_of_singleton (rw (first_at nd n tree k h (leaf a) e) at m) in rw q (a, e, h)
    at_node k (bin o l r) h e i m = go o (i o l r refl) (rw (first_at nd n tree k h (bin o l r) e) at m)
      where
        go : (p : Op) → Leads l × Leads r → Memᴰ j (join p (first nd l) (first nd r)) → IsLeaf nd n j
        go op_sum c m = ⊎_elim c.0 c.1 (Memᴰ.append_cases (first nd l) m)
        go op_product c m = c.0 m
        go op_star c m = ⊎_elim c.0 c.1 (Memᴰ.append_cases (first nd l) m)

    pub first_leaf : (k : ℕ) → k < n → Memᴰ j (first nd k) → IsLeaf nd n j
    unfolding Leads
    first_leaf = each_node nd n tree Leads at_node

  vertex_le : (l : List ℕ) → Chain nd n tree l → vertex_of l ≤ n
  vertex_le [] c = omega arith
  vertex_le (r ∷ rs) c = c.0

  pub edge_bounds : (k : ℕ) → k < n → (a t : ℕ) → Memᴰ (a, t) (edges nd n k) → (t ≤ n) × LeafAction nd n a
  unfolding edges
  edge_bounds k h a t m =
      let r = Memᴰ.of_map (edge nd n) (first nd k) m in
      let f = first_leaf r.0 k h r.1 in
      let p : t ≡ vertex_of (after nd n r.0) = ap (λ x. x.1) (sym r.2) in
      let q : a ≡ f.0 = ap (λ x. x.0) (sym r.2) ∙ rw f.1 in
      (rw p (vertex_le (after nd n r.0) (chain nd n tree r.0 f.2)), (r.0, f.2, f.1 ∙ ap leaf (sym q)))

  pub transition_bounds : (x : Transition) → Memᴰ x (transitions nd n) → (1 ≤ x.0) × (x.0 ≤ n) × (x.2 ≤ n) × LeafAction nd n x.1
  transition_bounds x m =
      let r = transitions→ nd n x m in
      let b = edge_bounds r.0 r.1 x.1 x.2 r.3 in
      (omega arith, omega arith, b.0, b.1)
