-- How many transitions there can be: the first actions of a node are those of different leaves, and a tree of n nodes has
-- at most (n + 1) / 2 leaves.
use Prim.Native.Nat.{ℕ, zero, suc, ◌+◌, ◌-◌, ◌*◌, ◌<◌, ◌≤◌}
use mathlib.Core.Path.{◌≡◌, refl, ap, sym, ◌∙◌}
use mathlib.Core.Bool.{Bool, true, false, cond}
use mathlib.Core.Logic.{◌⊎◌, inl, inr, ⊎_elim}
use native.Mathlib.Nat.{eq-or-lt_of_le, le_of_suc-le-suc}
use native.Mathlib.Omega.{arith}
use lib.Dec.{eqb}
use lib.ListN.{length, length-append, length-map}
use borrow.Author.Tests.{eq-eqb, ne_eqb, eqb-true, eqb-false}
use Rattle.theory.specs.Nodes.{Op, op_sum, op_product, op_star, Node, bad, dead, leaf, bin, join, first, Up, top, on, over, above_left, up, one, uses_in, uses, rise, at_leaf, Tree}
use Rattle.theory.specs.Recursions.{Parent, LocalUp}
use Rattle.theory.specs.Transitions.{precedes}
use Rattle.theory.specs.ExpressionCharts.{edge, edges, collect, transitions}
use Rattle.theory.proofs.Ascending.{sort_le}
use Rattle.theory.proofs.Down.{each_node, first_at}
use Rattle.theory.proofs.Up.{parent_at, each_node_above, rise_eq, up_left, up_right, uses_of_lem}

abbrev above : Up → (ℕ → ℕ) → ℕ
above top g = 0
above (on p) g = g p
above (over r p) g = g p

abbrev anc_alg : ℕ → ℕ → Up → (ℕ → ℕ) → ℕ
anc_alg x j u g = cond (eqb x j) 1 (above u g)

-- 1 where x is j or stands above it
anc : (ℕ → Node) → ℕ → ℕ → ℕ → ℕ
anc nd n x j = rise (anc_alg x) 0 nd n j

above_local : (u : Up) (g h : ℕ → ℕ) → ((q : ℕ) → Parent u q → g q ≡ h q) → above u g ≡ above u h
above_local top g h i = refl
above_local (on p) g h i = i p refl
above_local (over r p) g h i = i p refl

anc_local : (x : ℕ) → LocalUp (anc_alg x)
unfolding LocalUp
anc_local x j u g h i = ap (cond (eqb x j) 1) (above_local u g h i)

above_left_lem : (o : Op) (k r : ℕ) (g : ℕ → ℕ) → above (above_left o k r) g ≡ g k
above_left_lem op_sum k r g = refl
above_left_lem op_product k r g = refl
above_left_lem op_star k r g = refl

-- a node counts for j where j is one of its operands
is_operand : (o : Op) (l r j : ℕ) → 0 < uses_in (bin o l r) j → (eqb l j ≡ true) ⊎ (eqb r j ≡ true)
is_operand o l r j h = go (eqb l j) (eqb r j) h
  where
    go : (a b : Bool) → 0 < one a + one b → (a ≡ true) ⊎ (b ≡ true)
    go true b h = inl refl
    go false true h = inr refl
    go false false h = absurd (omega arith)

module _ (nd : ℕ → Node) (n : ℕ) (tree : Tree nd n) where
  anc_eq : (x j : ℕ) → j < n → anc nd n x j ≡ cond (eqb x j) 1 (above (up nd n j) (anc nd n x))
  unfolding anc
  anc_eq x j h = rise_eq nd n tree (anc_alg x) 0 (anc_local x) j h

  anc_self : (x : ℕ) → x < n → anc nd n x x ≡ 1
  anc_self x h = rw (anc_eq x x h, eq-eqb x x refl)

  anc_other : (x j : ℕ) → j < n → (x ≡ j → ⊥) → anc nd n x j ≡ above (up nd n j) (anc nd n x)
  anc_other x j h d = rw (anc_eq x j h, ne_eqb x j d)

  -- no lower node stands above
  anc_low : (x j : ℕ) → j < n → x < j → anc nd n x j ≡ 0
  anc_low x =
      each_node_above nd n tree (λ j. x < j → anc nd n x j ≡ 0)
      (λ j h c i.
      anc_other x j h (λ e. omega arith)
      ∙ above_local (up nd n j) (anc nd n x) (λ q. 0) (λ q e. c q e (omega (arith, parent_at nd n tree j q e)))
      ∙ zeros (up nd n j))
    where
      zeros : (u : Up) → above u (λ q. 0) ≡ 0
      zeros top = refl
      zeros (on p) = refl
      zeros (over r p) = refl

  anc_one : (x j : ℕ) → j < n → anc nd n x j ≤ 1
  anc_one x = each_node_above nd n tree (λ j. anc nd n x j ≤ 1) (λ j h c. rw (anc_eq x j h) (go (eqb x j) (up nd n j) c))
    where
      go : (b : Bool) (u : Up) → ((q : ℕ) → Parent u q → anc nd n x q ≤ 1) → cond b 1 (above u (anc nd n x)) ≤ 1
      go true u i = omega arith
      go false top i = omega arith
      go false (on p) i = i p refl
      go false (over r p) i = i p refl

  -- what is below a node is the node, or below one of its operands
  module _ (k : ℕ) (h : k < n) (o : Op) (l r : ℕ) (e : nd k ≡ bin o l r) where
    apart : l ≡ r → ⊥
    apart q =
        let b = tree.low k o l r h e in
        let u = tree.once r (omega arith) in
        let c = rw (e, eq-eqb r r refl, eq-eqb l r q) at (uses_of_lem nd n k r h) in
        omega arith

    anc_of_left : (x : ℕ) → (x ≡ l → ⊥) → anc nd n x l ≡ anc nd n x k
    anc_of_left x d = anc_other x l (omega (arith, tree.low k o l r h e)) d ∙ rw (up_left nd n tree k h o l r e) (above_left_lem o k r (anc nd n x))

    anc_of_right : (x : ℕ) → (x ≡ r → ⊥) → anc nd n x r ≡ anc nd n x k
    anc_of_right x d = anc_other x r (omega (arith, tree.low k o l r h e)) d ∙ rw (up_right nd n tree k h o l r e)

    -- k is not the parent of what is no operand of it
    not_parent : (j : ℕ) → eqb l j ≡ false → eqb r j ≡ false → (q : ℕ) → 0 < uses_in (nd q) j → k ≡ q → ⊥
    not_parent j p s q u d =
        ⊎_elim (λ (t : eqb l j ≡ true). eqb-false l j p (eqb-true l j t)) (λ (t : eqb r j ≡ true). eqb-false r j s (eqb-true r j t))
        (is_operand o l r j (rw e at (rw (← d) at u)))

    Split : ℕ → Type 0
    Split j = anc nd n k j ≡ one (eqb k j) + (anc nd n l j + anc nd n r j)

    split_at : (j : ℕ) → j < n → ((q : ℕ) → Parent (up nd n j) q → Split q) → Split j
    unfolding Split
    split_at j i c = go (eqb k j) (eqb l j) (eqb r j) refl refl refl
      where
        b : (l < k) × (r < k)
        b = tree.low k o l r h e

        below_k : (x : ℕ) → x < k → anc nd n x k ≡ 0
        below_k x d = anc_low x k h d

        pass : (u : Up) → ((q : ℕ) → Parent u q → anc nd n k q ≡ anc nd n l q + anc nd n r q) → above u (anc nd n k) ≡ 0 + (above u (anc nd n l) + above u (anc nd n r))
        pass top c = refl
        pass (on p) c = let d = c p refl in omega arith
        pass (over r p) c = let d = c p refl in omega arith

        go : (x y z : Bool) → eqb k j ≡ x → eqb l j ≡ y → eqb r j ≡ z → anc nd n k j ≡ one x + (anc nd n l j + anc nd n r j)
        go true y z p q s = rw (← eqb-true k j p) (rw (anc_self k h, below_k l b.0, below_k r b.1))
        go false true z p q s = rw (← eqb-true l j q) (rw (anc_of_left k (λ d. omega (arith, b.0)), anc_of_left r (λ d. apart (sym d)), anc_self k h, anc_self l (omega (arith, b.0)), below_k r b.1))
        go false false true p q s = rw (← eqb-true r j s) (rw (anc_of_right k (λ d. omega (arith, b.1)), anc_of_right l apart, anc_self k h, anc_self r (omega (arith, b.1)), below_k l b.0))
        go false false false p q s =
            rw (anc_other k j i (eqb-false k j p), anc_other l j i (eqb-false l j q), anc_other r j i (eqb-false r j s))
            (pass (up nd n j) (λ w t.
            let v = parent_at nd n tree j w t in
            rw (ne_eqb k w (not_parent j q s w v.2)) at (c w t) ∙ omega arith))

    anc_split : (j : ℕ) → j < n → anc nd n k j ≡ one (eqb k j) + (anc nd n l j + anc nd n r j)
    unfolding Split
    anc_split = each_node_above nd n tree Split split_at

-- f 0 + f 1 + .. + f (m - 1)
sum : (ℕ → ℕ) → ℕ → ℕ
sum f zero = 0
sum f (suc m) = sum f m + f m

sum_le : (f g : ℕ → ℕ) (m : ℕ) → ((j : ℕ) → j < m → f j ≤ g j) → sum f m ≤ sum g m
unfolding sum
sum_le f g zero h = omega arith
sum_le f g (suc m) h = let i = sum_le f g m (λ j q. h j (omega arith)) in let j = h m (omega arith) in omega arith

sum_add : (f g : ℕ → ℕ) (m : ℕ) → sum (λ j. f j + g j) m ≡ sum f m + sum g m
unfolding sum
sum_add f g zero = refl
sum_add f g (suc m) = let i = sum_add f g m in omega arith

sum_one : (f : ℕ → ℕ) (m k : ℕ) → k < m → f k ≤ sum f m
unfolding sum
sum_one f zero k h = absurd (omega arith)
sum_one f (suc m) k h = ⊎_elim (λ (e : k ≡ m). rw e (omega arith)) (λ (q : k < m). let i = sum_one f m k q in omega arith) (eq-or-lt_of_le (le_of_suc-le-suc h))

-- 1 at a node with operands
abbrev at_bin : Node → ℕ
at_bin bad = 0
at_bin dead = 0
at_bin (leaf a) = 0
at_bin (bin o l r) = 1

at_leaf_le : (v : Node) (x y : ℕ) → x ≤ y → at_leaf v x ≤ at_leaf v y
at_leaf_le bad x y h = omega arith
at_leaf_le dead x y h = omega arith
at_leaf_le (leaf a) x y h = h
at_leaf_le (bin o l r) x y h = omega arith

at_leaf_add : (v : Node) (x y : ℕ) → at_leaf v (x + y) ≡ at_leaf v x + at_leaf v y
at_leaf_add bad x y = refl
at_leaf_add dead x y = refl
at_leaf_add (leaf a) x y = refl
at_leaf_add (bin o l r) x y = refl

module _ (nd : ℕ → Node) (n : ℕ) where
  -- the leaves below x, and all of them
  below : ℕ → ℕ
  below x = sum (λ j. at_leaf (nd j) (anc nd n x j)) n

  pub leaves : ℕ
  leaves = sum (λ j. at_leaf (nd j) 1) n

  module _ (tree : Tree nd n) where
    below_le : (x : ℕ) → below x ≤ leaves
    unfolding below leaves
    below_le x = sum_le (λ j. at_leaf (nd j) (anc nd n x j)) (λ j. at_leaf (nd j) 1) n (λ j h. at_leaf_le (nd j) (anc nd n x j) 1 (anc_one nd n tree x j h))

    below_leaf : (k a : ℕ) → k < n → nd k ≡ leaf a → 1 ≤ below k
    unfolding below
    below_leaf k a h e = let i = rw (e, anc_self nd n tree k h) at (sum_one (λ j. at_leaf (nd j) (anc nd n k j)) n k h) in i

    below_bin : (k : ℕ) (o : Op) (l r : ℕ) → k < n → nd k ≡ bin o l r → below l + below r ≤ below k
    unfolding below
    below_bin k o l r h e =
        rw (← sum_add (λ j. at_leaf (nd j) (anc nd n l j)) (λ j. at_leaf (nd j) (anc nd n r j)) n)
        (sum_le (λ j. at_leaf (nd j) (anc nd n l j) + at_leaf (nd j) (anc nd n r j)) (λ j. at_leaf (nd j) (anc nd n k j)) n
        (λ j i. rw (← at_leaf_add (nd j) (anc nd n l j) (anc nd n r j)) (at_leaf_le (nd j) (anc nd n l j + anc nd n r j) (anc nd n k j) (omega (arith, anc_split nd n tree k h o l r e j i)))))

    Few : ℕ → Type 0
    Few k = length (first nd k) ≤ below k

    first_node : (k : ℕ) (v : Node) → k < n → nd k ≡ v → ((o : Op) (l r : ℕ) → v ≡ bin o l r → Few l × Few r) → Few k
    unfolding Few
    first_node k bad h e i = rw (first_at nd n tree k h bad e) (omega arith)
    first_node k dead h e i = rw (first_at nd n tree k h dead e) (omega arith)
    first_node k (leaf a) h e i = rw (first_at nd n tree k h (leaf a) e) (below_leaf k a h e)
    first_node k (bin o l r) h e i = rw (first_at nd n tree k h (bin o l r) e) (go o (below_bin k o l r h e) (i o l r refl))
      where
        go : (p : Op) → below l + below r ≤ below k → Few l × Few r → length (join p (first nd l) (first nd r)) ≤ below k
        go op_sum b c = rw (length-append) (omega arith)
        go op_product b c = omega arith
        go op_star b c = rw (length-append) (omega arith)

    first_le : (k : ℕ) → k < n → length (first nd k) ≤ below k
    unfolding Few
    first_le = each_node nd n tree Few first_node

    pub edges_le : (k : ℕ) → k < n → length (edges nd n k) ≤ leaves
    unfolding edges
    edges_le k h = rw (length-map (first nd k) (edge nd n)) (let a = first_le k h in let b = below_le k in omega arith)

-- each node but the last is an operand once, and a node has at most two operands
zero_below : (l m : ℕ) → m ≤ l → sum (λ j. one (eqb l j)) m ≡ 0
unfolding sum
zero_below l zero h = refl
zero_below l (suc m) h = rw (ne_eqb l m (λ e. omega arith)) (let i = zero_below l m (omega arith) in omega arith)

one_below : (l m : ℕ) → sum (λ j. one (eqb l j)) m ≤ 1
unfolding sum
one_below l zero = omega arith
one_below l (suc m) = go (eqb l m) refl (one_below l m)
  where
    go : (b : Bool) → eqb l m ≡ b → sum (λ j. one (eqb l j)) m ≤ 1 → sum (λ j. one (eqb l j)) m + one b ≤ 1
    go true e i = let z = zero_below l m (let q = eqb-true l m e in omega arith) in omega arith
    go false e i = omega arith

sum_zeros : (m : ℕ) → sum (λ j. 0) m ≡ 0
unfolding sum
sum_zeros zero = refl
sum_zeros (suc m) = let i = sum_zeros m in omega arith

used_by : (v : Node) (m : ℕ) → sum (uses_in v) m ≤ 2 * at_bin v
used_by bad m = let i = sum_zeros m in omega arith
used_by dead m = let i = sum_zeros m in omega arith
used_by (leaf a) m = let i = sum_zeros m in omega arith
used_by (bin o l r) m =
    let i = sum_add (λ j. one (eqb l j)) (λ j. one (eqb r j)) m in
    let a = one_below l m in
    let b = one_below r m in
    omega arith

used_all : (nd : ℕ → Node) (p m : ℕ) → sum (uses nd p) m ≤ 2 * sum (λ j. at_bin (nd j)) p
unfolding uses sum
used_all nd zero m = let i = sum_zeros m in omega arith
used_all nd (suc p) m =
    let i = sum_add (uses nd p) (uses_in (nd p)) m in
    let a = used_all nd p m in
    let b = used_by (nd p) m in
    omega arith

sum_ones : (m : ℕ) → sum (λ j. 1) m ≡ m
unfolding sum
sum_ones zero = refl
sum_ones (suc m) = let i = sum_ones m in omega arith

one_kind : (v : Node) → at_leaf v 1 + at_bin v ≤ 1
one_kind bad = omega arith
one_kind dead = omega arith
one_kind (leaf a) = omega arith
one_kind (bin o l r) = omega arith

pub leaves_le : (nd : ℕ → Node) (n : ℕ) → Tree nd n → 2 * leaves nd n ≤ n + 1
unfolding leaves
leaves_le nd n tree =
    let a = used_all nd n (n - 1) in
    let b = sum_le (λ j. 1) (uses nd n) (n - 1) (λ j h. let u = tree.once j (omega arith) in omega arith) in
    let c = sum_le (λ j. at_leaf (nd j) 1 + at_bin (nd j)) (λ j. 1) n (λ j h. one_kind (nd j)) in
    let p = sum_ones (n - 1) in
    let q = sum_ones n in
    let d = sum_add (λ j. at_leaf (nd j) 1) (λ j. at_bin (nd j)) n in
    omega arith

-- what starts at 0 and grows by at most 1 at each leaf is at most their number
pub leaves_most : (nd : ℕ → Node) (f : ℕ → ℕ) (n : ℕ) → f 0 ≡ 0 → ((k : ℕ) → f (suc k) ≤ f k + at_leaf (nd k) 1) → f n ≤ leaves nd n
unfolding leaves sum
leaves_most nd f zero z s = omega arith
leaves_most nd f (suc n) z s = let i = leaves_most nd f n z s in let q = s n in omega arith

-- the number of transitions
collect_le : (nd : ℕ → Node) (n m : ℕ) → ((k : ℕ) → k < m → length (edges nd n k) ≤ 64) → length (collect nd n m) ≤ m * 64
unfolding collect
collect_le nd n zero h = omega arith
collect_le nd n (suc m) h =
    simp (length-append, length-map)
    (let i = collect_le nd n m (λ k q. h k (omega arith)) in let j = h m (omega arith) in omega arith)

pub transitions_le : (nd : ℕ → Node) (n : ℕ) → Tree nd n → n ≤ 127 → length (transitions nd n) ≤ 8192
unfolding transitions
transitions_le nd n tree h =
    let a = collect_le nd n n (λ k q. let x = edges_le nd n tree k q in let y = leaves_le nd n tree in omega arith) in
    let b = sort_le precedes (collect nd n n) in
    omega arith
