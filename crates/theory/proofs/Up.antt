-- Climbing in a table whose every node but the last is an operand exactly once.
use Prim.Native.Nat.{ℕ, zero, suc, ◌+◌, ◌<◌, ◌≤◌}
use mathlib.Core.Path.{◌≡◌, refl, ap, ◌∙◌}
use mathlib.Core.Bool.{Bool, true, false, cond}
use mathlib.Core.Logic.{◌⊎◌, inl, inr, ⊎_elim}
use mathlib.Core.List.{List, [], ◌∷◌}
use native.Mathlib.Nat.{eq-or-lt_of_le, le_of_suc-le-suc}
use native.Mathlib.Omega.{arith}
use lib.Dec.{eqb}
use borrow.Author.Tests.{eq-eqb, ne_eqb, eqb-true}
use Rattle.theory.specs.Nodes.{Op, op_sum, op_product, op_star, Node, bad, dead, leaf, bin, Up, top, on, over, above_left, up_in, up, one, uses_in, uses, follow, rise_f, rise, after, Tree}
use Rattle.theory.specs.Recursions.{Parent, LocalUp}

-- a node that does not have j as an operand leaves what is above j, and one that does settles it
unused : (k : ℕ) (v : Node) (j : ℕ) (u : Up) → uses_in v j ≡ 0 → up_in k v j u ≡ u
unused k bad j u e = refl
unused k dead j u e = refl
unused k (leaf a) j u e = refl
unused k (bin o l r) j u e = go (eqb l j) (eqb r j) e
  where
    go : (a b : Bool) → one a + one b ≡ 0 → cond a (above_left o k r) (cond b (on k) u) ≡ u
    go true b q = absurd (omega arith)
    go false true q = absurd (omega arith)
    go false false q = refl

used : (k : ℕ) (v : Node) (j : ℕ) (u w : Up) → 0 < uses_in v j → up_in k v j u ≡ up_in k v j w
used k bad j u w h = absurd (omega arith)
used k dead j u w h = absurd (omega arith)
used k (leaf a) j u w h = absurd (omega arith)
used k (bin o l r) j u w h = go (eqb l j) (eqb r j) h
  where
    go : (a b : Bool) → 0 < one a + one b → cond a (above_left o k r) (cond b (on k) u) ≡ cond a (above_left o k r) (cond b (on k) w)
    go true b q = refl
    go false true q = refl
    go false false q = absurd (omega arith)

pub uses_of_lem : (nd : ℕ → Node) (n k j : ℕ) → k < n → uses_in (nd k) j ≤ uses nd n j
unfolding uses
uses_of_lem nd zero k j h = absurd (omega arith)
uses_of_lem nd (suc n) k j h =
    ⊎_elim (λ (e : k ≡ n). rw e (omega arith)) (λ (q : k < n). let i = uses_of_lem nd n k j q in omega arith) (eq-or-lt_of_le (le_of_suc-le-suc h))

-- the one node that has j as an operand is what is above it
up_found : (nd : ℕ → Node) (n k j : ℕ) → k < n → 0 < uses_in (nd k) j → uses nd n j ≡ 1 → up nd n j ≡ up_in k (nd k) j top
unfolding up uses
up_found nd zero k j h p e = absurd (omega arith)
up_found nd (suc n) k j h p e =
    ⊎_elim
    (λ (q : k ≡ n). rw q (used n (nd n) j (up nd n j) top (rw q at p)))
    (λ (q : k < n).
    let i = uses_of_lem nd n k j q in
    unused n (nd n) j (up nd n j) (omega arith) ∙ up_found nd n k j q p (omega arith))
    (eq-or-lt_of_le (le_of_suc-le-suc h))

settled : (a : Bool) (u : Up) (k : ℕ) → one a + 1 ≤ 1 → cond a u (on k) ≡ on k
settled true u k h = absurd (omega arith)
settled false u k h = refl

-- what is above a node is higher, and a remainder is the parent or the right operand of a product
abbrev Ok : (ℕ → Node) → ℕ → ℕ → Up → Type 0
Ok nd j m top = Unit {0}
Ok nd j m (on p) = (j < p) × (p < m) × (0 < uses_in (nd p) j)
Ok nd j m (over r p) = (j < p) × (p < m) × (0 < uses_in (nd p) j) × ((r ≡ p) ⊎ ((l : ℕ) × (nd p ≡ bin op_product l r)))

wider : (nd : ℕ → Node) (j m : ℕ) (u : Up) → Ok nd j m u → Ok nd j (suc m) u
wider nd j m top h = tt
wider nd j m (on p) h = (h.0, omega arith, h.2)
wider nd j m (over r p) h = (h.0, omega arith, h.2, h.3)

left_ok : (nd : ℕ → Node) (m l r : ℕ) (o : Op) → nd m ≡ bin o l r → l < m → 0 < uses_in (nd m) l → Ok nd l (suc m) (above_left o m r)
left_ok nd m l r op_sum e h u = (h, omega arith, u)
left_ok nd m l r op_product e h u = (h, omega arith, u, inr (l, e))
left_ok nd m l r op_star e h u = (h, omega arith, u, inl refl)

parent_ok : (nd : ℕ → Node) (j m : ℕ) (u : Up) (q : ℕ) → Ok nd j m u → Parent u q → (j < q) × (q < m) × (0 < uses_in (nd q) j)
parent_ok nd j m top q i e = absurd e
parent_ok nd j m (on p) q i e = rw (← e) (i.0, i.1, i.2)
parent_ok nd j m (over r p) q i e = rw (← e) (i.0, i.1, i.2)

follow_local : LocalUp (λ i. follow)
unfolding LocalUp
follow_local j top x y h = refl
follow_local j (on p) x y h = h p refl
follow_local j (over r p) x y h = ap (λ q. r ∷ q) (h p refl)

module _ (nd : ℕ → Node) (n : ℕ) (tree : Tree nd n) where
  in_ok : (j m : ℕ) (v : Node) (u : Up) → m < n → nd m ≡ v → Ok nd j (suc m) u → Ok nd j (suc m) (up_in m v j u)
  in_ok j m bad u h e i = i
  in_ok j m dead u h e i = i
  in_ok j m (leaf a) u h e i = i
  in_ok j m (bin o l r) u h e i = go (eqb l j) (eqb r j) refl refl
    where
      go : (a b : Bool) → eqb l j ≡ a → eqb r j ≡ b → Ok nd j (suc m) (cond a (above_left o m r) (cond b (on m) u))
      go true b p q = rw (← eqb-true l j p) (left_ok nd m l r o e (tree.low m o l r h e).0 (rw (e, eq-eqb l l refl) (omega arith)))
      go false true p q = (rw (← eqb-true r j q) (tree.low m o l r h e).1, omega arith, rw (e, q) (omega arith))
      go false false p q = i

  up_ok : (j m : ℕ) → m ≤ n → Ok nd j m (up nd m j)
  unfolding up
  up_ok j zero h = tt
  up_ok j (suc m) h = in_ok j m (nd m) (up nd m j) h refl (wider nd j m (up nd m j) (up_ok j m (omega arith)))

  pub parent_at : (j q : ℕ) → Parent (up nd n j) q → (j < q) × (q < n) × (0 < uses_in (nd q) j)
  parent_at j q = parent_ok nd j n (up nd n j) q (up_ok j n (omega arith))

  -- induction: a law of every node that holds of a node where it holds of the one above
  module _ (P : ℕ → Type 0) (at_node : (j : ℕ) → j < n → ((q : ℕ) → Parent (up nd n j) q → P q) → P j) where
    climb : (f j : ℕ) → j < n → n ≤ f + j → P j
    climb zero j h i = absurd (omega arith)
    climb (suc f) j h i = at_node j h (λ q e. let b = parent_at j q e in climb f q b.1 (omega arith))

    pub each_node_above : (j : ℕ) → j < n → P j
    each_node_above j h = climb n j h (omega arith)

  -- the fuel of a climb does not matter
  enough : {A : Type 0} (alg : ℕ → Up → (ℕ → A) → A) (none : A) → LocalUp alg → (f g j : ℕ) → j < n → n ≤ f + j → n ≤ g + j → rise_f alg none nd n f j ≡ rise_f alg none nd n g j
  unfolding rise_f LocalUp
  enough alg none local zero g j h hf hg = absurd (omega arith)
  enough alg none local (suc f) zero j h hf hg = absurd (omega arith)
  enough alg none local (suc f) (suc g) j h hf hg =
      local j (up nd n j) (rise_f alg none nd n f) (rise_f alg none nd n g)
      (λ q i. let b = parent_at j q i in enough alg none local f g q b.1 (omega arith) (omega arith))

  pub rise_eq : {A : Type 0} (alg : ℕ → Up → (ℕ → A) → A) (none : A) → LocalUp alg → (j : ℕ) → j < n → rise alg none nd n j ≡ alg j (up nd n j) (rise alg none nd n)
  unfolding rise rise_f
  rise_eq alg none local j h = enough alg none local n (suc n) j h (omega arith) (omega arith)

  pub after_eq : (j : ℕ) → j < n → after nd n j ≡ follow (up nd n j) (after nd n)
  unfolding after
  after_eq j h = rise_eq (λ i. follow) [] follow_local j h

  -- the operands of node k
  module _ (k : ℕ) (h : k < n) (o : Op) (l r : ℕ) (e : nd k ≡ bin o l r) where
    pub up_left : up nd n l ≡ above_left o k r
    up_left =
        let b = tree.low k o l r h e in
        up_found nd n k l h (rw (e, eq-eqb l l refl) (omega arith)) (tree.once l (omega arith)) ∙ rw (e, eq-eqb l l refl)

    pub up_right : up nd n r ≡ on k
    up_right =
        let b = tree.low k o l r h e in
        let u = tree.once r (omega arith) in
        let c = rw (e, eq-eqb r r refl) at (uses_of_lem nd n k r h) in
        up_found nd n k r h (rw (e, eq-eqb r r refl) (omega arith)) u ∙ rw (e, eq-eqb r r refl) (settled (eqb l r) (above_left o k r) k (omega arith))

    pub after_left : after nd n l ≡ follow (above_left o k r) (after nd n)
    after_left = rw (after_eq l (omega (arith, tree.low k o l r h e)), up_left)

    pub after_right : after nd n r ≡ after nd n k
    after_right = rw (after_eq r (omega (arith, tree.low k o l r h e)), up_right)

  -- what remains after the first remainder are the other ones
  abbrev pub Chain : List ℕ → Type 0
  Chain [] = Unit {0}
  Chain (r ∷ rs) = (r < n) × (after nd n r ≡ rs)

  over_ok : (r p : ℕ) → p < n → (r ≡ p) ⊎ ((l : ℕ) × (nd p ≡ bin op_product l r)) → Chain (r ∷ after nd n p)
  over_ok r p h (inl e) = rw e (h, refl)
  over_ok r p h (inr e) = (omega (arith, tree.low p op_product e.0 r h e.1), after_right p h op_product e.0 r e.1)

  pub chain : (j : ℕ) → j < n → Chain (after nd n j)
  chain = each_node_above (λ j. Chain (after nd n j)) (λ j h c. rw (after_eq j h) (go j (up nd n j) (up_ok j n (omega arith)) c))
    where
      go : (j : ℕ) (u : Up) → Ok nd j n u → ((p : ℕ) → Parent u p → Chain (after nd n p)) → Chain (follow u (after nd n))
      go j top i c = tt
      go j (on p) i c = c p refl
      go j (over r p) i c = over_ok r p i.1 i.3

  -- nothing remains after the last node
  lower : (m j : ℕ) (v : Node) → m < n → nd m ≡ v → m ≤ j → uses_in v j ≡ 0
  lower m j bad h e i = refl
  lower m j dead h e i = refl
  lower m j (leaf a) h e i = refl
  lower m j (bin o l r) h e i =
      let b = tree.low m o l r h e in
      rw (ne_eqb l j (λ q. omega arith), ne_eqb r j (λ q. omega arith))

  last_top : (j m : ℕ) → m ≤ n → m ≤ suc j → up nd m j ≡ top
  unfolding up
  last_top j zero h i = refl
  last_top j (suc m) h i = unused m (nd m) j (up nd m j) (lower m j (nd m) h refl (omega arith)) ∙ last_top j m (omega arith) (omega arith)

  pub after_last : (j : ℕ) → n ≡ suc j → after nd n j ≡ []
  after_last j e = rw (after_eq j (omega arith), last_top j n (omega arith) (omega arith))
