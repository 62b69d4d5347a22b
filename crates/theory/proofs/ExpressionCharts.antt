-- The chart read off a table of nodes has exactly the steps that the rules derive for the residuals.
use Prim.Native.Nat.{ℕ, zero, suc, ◌<◌}
use mathlib.Core.Path.{◌≡◌, refl, ap, ap₂, sym, ◌∙◌, subst}
use mathlib.Core.Logic.{⊎_elim}
use mathlib.Core.List.Memᴰ
use mathlib.Core.List.{List, [], ◌∷◌, ◌++◌, map, map-append, map-map, Memᴰ}
use native.Mathlib.Nat.{eq-or-lt_of_le, le_of_suc-le-suc}
use native.Mathlib.Omega.{arith}
use Rattle.theory.specs.Expressions.{star, Target, end, Step}
use Rattle.theory.specs.Derivatives.{moved, derivatives}
use Rattle.theory.specs.Nodes.{Op, op_sum, op_product, op_star, Node, bad, dead, leaf, bin, expr, first, above_left, follow, after, remainders, residual, meaning, Tree}
use Rattle.theory.specs.Ascending.{Ascending}
use Rattle.theory.specs.Transitions.{Transition, precedes}
use Rattle.theory.specs.ExpressionCharts.{vertex_of, edge, edges, meant, leaving, collect, transitions}
use Rattle.theory.proofs.Ascending.{sort_ascends, sort→, sort←, precedes_order}
use Rattle.theory.proofs.Derivatives.{derivatives_sound, derivatives_complete}
use Rattle.theory.proofs.Contexts.{plug, plugged, plug_to, in_context}
use Rattle.theory.proofs.Down.{each_node, expr_at, first_at}
use Rattle.theory.proofs.Up.{after_left, after_right, chain, Chain, after_last}

module _ (nd : ℕ → Node) (n : ℕ) (tree : Tree nd n) where
  -- what a leaf leads to
  ends : (l : List ℕ) → Chain nd n tree l → plug (map (expr nd) l) end ≡ meaning nd n (vertex_of l)
  unfolding residual remainders
  ends [] c = refl
  ends (r ∷ rs) c = plug_to (map (expr nd) rs) (expr nd r) ∙ rw c.1

  at_leaf_lem : (k : ℕ) → k < n → plug (remainders nd n k) end ≡ meaning nd n (vertex_of (after nd n k))
  unfolding remainders
  at_leaf_lem k h = ends (after nd n k) (chain nd n tree k h)

  -- the remainders of a node's operands
  module _ (k : ℕ) (h : k < n) (o : Op) (l r : ℕ) (e : nd k ≡ bin o l r) where
    remainders_left : remainders nd n l ≡ map (expr nd) (follow (above_left o k r) (after nd n))
    unfolding remainders
    remainders_left = rw (after_left nd n tree k h o l r e)

    remainders_right : remainders nd n r ≡ remainders nd n k
    unfolding remainders
    remainders_right = rw (after_right nd n tree k h o l r e)

  Same : ℕ → Type 0
  Same k = map (plugged (remainders nd n k)) (derivatives (expr nd k)) ≡ map (λ j. meant nd n (edge nd n j)) (first nd k)

  at_node : (k : ℕ) (v : Node) → k < n → nd k ≡ v → ((o : Op) (l r : ℕ) → v ≡ bin o l r → Same l × Same r) → Same k
  unfolding Same remainders
  at_node k bad h e i = rw (expr_at nd n tree k h bad e, first_at nd n tree k h bad e)
  at_node k dead h e i = rw (expr_at nd n tree k h dead e, first_at nd n tree k h dead e)
  at_node k (leaf a) h e i = rw (expr_at nd n tree k h (leaf a) e, first_at nd n tree k h (leaf a) e, at_leaf_lem k h, e)
  at_node k (bin op_sum l r) h e i =
      rw (expr_at nd n tree k h (bin op_sum l r) e, first_at nd n tree k h (bin op_sum l r) e)
      (simp map-append
      (ap₂ ◌++◌ (rw (remainders_left k h op_sum l r e) at (i op_sum l r refl).0) (rw (remainders_right k h op_sum l r e) at (i op_sum l r refl).1)))
  at_node k (bin op_product l r) h e i =
      rw (expr_at nd n tree k h (bin op_product l r) e, first_at nd n tree k h (bin op_product l r) e)
      (map-map (plugged (remainders nd n k)) (moved (expr nd r)) (derivatives (expr nd l)) ∙ rw (remainders_left k h op_product l r e) at (i op_product l r refl).0)
  at_node k (bin op_star l r) h e i =
      rw (expr_at nd n tree k h (bin op_star l r) e, first_at nd n tree k h (bin op_star l r) e)
      (simp map-append
      (ap₂ ◌++◌
      (map-map (plugged (remainders nd n k)) (moved (star (expr nd l) (expr nd r))) (derivatives (expr nd l)) ∙ rw (remainders_left k h op_star l r e, expr_at nd n tree k h (bin op_star l r) e) at (i op_star l r refl).0)
      (rw (remainders_right k h op_star l r e) at (i op_star l r refl).1)))

  -- THE THEOREM: what leaves a vertex are, in order, the steps of its residual
  pub edges_are_steps : (k : ℕ) → k < n → map (meant nd n) (edges nd n k) ≡ derivatives (residual nd n k)
  unfolding Same edges residual
  edges_are_steps k h =
      map-map (meant nd n) (edge nd n) (first nd k)
      ∙ sym (each_node nd n tree Same at_node k h)
      ∙ sym (in_context (remainders nd n k) (expr nd k))

  pub edges_sound : (k : ℕ) → k < n → (a t : ℕ) → Memᴰ (a, t) (edges nd n k) → Step (residual nd n k) a (meaning nd n t)
  edges_sound k h a t m = derivatives_sound (residual nd n k) (a, meaning nd n t) (subst (Memᴰ (a, meaning nd n t)) (edges_are_steps k h) (Memᴰ.map (meant nd n) m))

  pub edges_complete : (k : ℕ) → k < n → {a : ℕ} {ξ : Target} → Step (residual nd n k) a ξ → (t : ℕ) × Memᴰ (a, t) (edges nd n k) × (meaning nd n t ≡ ξ)
  edges_complete k h {a} {ξ} s =
      let r = Memᴰ.of_map (meant nd n) (edges nd n k) (subst (Memᴰ (a, ξ)) (sym (edges_are_steps k h)) (derivatives_complete s)) in
      (r.0.1, subst (λ (b : ℕ). Memᴰ (b, r.0.1) (edges nd n k)) (ap (λ m. m.0) r.2) r.1, ap (λ m. m.1) r.2)

  -- the start stands for the whole expression
  pub residual_of_start : (root : ℕ) → n ≡ suc root → residual nd n root ≡ expr nd root
  unfolding residual remainders
  residual_of_start root e = rw (after_last nd n tree root e)

-- what is collected
collect→ : (nd : ℕ → Node) (n m : ℕ) (x : Transition) → Memᴰ x (collect nd n m) → (k : ℕ) × (k < m) × (x.0 ≡ suc k) × Memᴰ (x.1, x.2) (edges nd n k)
unfolding collect
collect→ nd n zero x h = absurd (Memᴰ.not-nil h)
collect→ nd n (suc m) x h =
    ⊎_elim
    (λ i. let r = Memᴰ.of_map (leaving m) (edges nd n m) i in
    (m, omega arith, ap (λ y. y.0) (sym r.2), Memᴰ.cast (ap (λ y. (y.1, y.2)) (sym r.2)) r.1))
    (λ i. let r = collect→ nd n m x i in (r.0, omega arith, r.2, r.3))
    (Memᴰ.append_cases (map (leaving m) (edges nd n m)) h)

collect← : (nd : ℕ → Node) (n m k a t : ℕ) → k < m → Memᴰ (a, t) (edges nd n k) → Memᴰ (suc k, a, t) (collect nd n m)
unfolding collect
collect← nd n zero k a t h i = absurd (omega arith)
collect← nd n (suc m) k a t h i =
    ⊎_elim
    (λ (e : k ≡ m). rw e (Memᴰ.append_left (collect nd n m) (Memᴰ.map (leaving m) (rw e at i))))
    (λ (q : k < m). Memᴰ.append_right (map (leaving m) (edges nd n m)) (collect← nd n m k a t q i))
    (eq-or-lt_of_le (le_of_suc-le-suc h))

module _ (nd : ℕ → Node) (n : ℕ) where
  pub transitions_ascend : Ascending precedes (transitions nd n)
  unfolding transitions
  transitions_ascend = sort_ascends precedes (collect nd n n)

  pub transitions→ : (x : Transition) → Memᴰ x (transitions nd n) → (k : ℕ) × (k < n) × (x.0 ≡ suc k) × Memᴰ (x.1, x.2) (edges nd n k)
  unfolding transitions
  transitions→ x m = collect→ nd n n x (sort→ precedes x (collect nd n n) m)

  pub transitions← : (k a t : ℕ) → k < n → Memᴰ (a, t) (edges nd n k) → Memᴰ (suc k, a, t) (transitions nd n)
  unfolding transitions
  transitions← k a t h m = sort← precedes precedes_order (suc k, a, t) (collect nd n n) (collect← nd n n k a t h m)

  -- THE CHART: its transitions are the steps that the rules derive for the residuals
  module _ (tree : Tree nd n) where
    pub chart_sound : (k a t : ℕ) → Memᴰ (suc k, a, t) (transitions nd n) → (k < n) × Step (residual nd n k) a (meaning nd n t)
    chart_sound k a t m =
        let r = transitions→ (suc k, a, t) m in
        at_vertex r.0 r.1 (omega arith) r.3
      where
        at_vertex : (j : ℕ) → j < n → k ≡ j → Memᴰ (a, t) (edges nd n j) → (k < n) × Step (residual nd n k) a (meaning nd n t)
        at_vertex j h e i = (rw e h, rw e (edges_sound nd n tree j h a t i))

    pub chart_complete : (k : ℕ) → k < n → {a : ℕ} {ξ : Target} → Step (residual nd n k) a ξ → (t : ℕ) × Memᴰ (suc k, a, t) (transitions nd n) × (meaning nd n t ≡ ξ)
    chart_complete k h {a} s = let r = edges_complete nd n tree k h s in (r.0, transitions← k a r.0 h r.1, r.2)
