-- The bytes of a well_formed node: what its kind tells.
use Prim.Native.Nat.{ℕ, zero, suc, ◌<◌, ◌≤◌}
use mathlib.Core.Path.{◌≡◌, refl, sym, ◌∙◌, subst}
use mathlib.Core.Bool.{Bool, true, false, cond, ◌&&◌, false≢true}
use mathlib.Core.List.{List}
use mathlib.Core.Logic.{by_cases}
use native.Mathlib.Decide.{dec_lt}
use native.Mathlib.Omega.{arith}
use lib.Dec.{eqb, ltb, leb}
use borrow.Author.Tests.{eqb-true, eqb-false, ltb-true, eq-eqb, ne_eqb, le-leb, lt-leb}
use Rattle.theory.specs.Nodes.{Op, op_sum, op_product, op_star, Node, bad, dead, leaf, bin}
use Rattle.expression.specs.Table.{kind_of, action_of, left_of, right_of, branch, parse, node, is_good, op_of}
use Rattle.expression.proofs.Table.{node_low}

settle : (b : Bool) (x : Node) → is_good (cond b x bad) ≡ true → cond b x bad ≡ x
settle true x e = refl
settle false x e = absurd (false≢true e)

-- what stands at a node, without the tests
abbrev plain : ℕ → ℕ → ℕ → ℕ → Node
plain m a l r = cond (eqb m 0) dead (cond (eqb m 1) (leaf a) (bin (op_of m) l r))

-- the tests of a well_formed node have passed
parse_plain : (k m a l r : ℕ) → is_good (parse k m a l r) ≡ true → parse k m a l r ≡ plain m a l r
parse_plain k m a l r e = go (eqb m 0) (eqb m 1) (eqb m 2) (eqb m 3) (eqb m 4) e
  where
    P : Bool → Bool → Bool → Bool → Bool → Node
    P u v w x y =
        cond u (cond (eqb a 0 && eqb l 0 && eqb r 0) dead bad)
        (cond v (cond (ltb 0 a && eqb l 0 && eqb r 0) (leaf a) bad)
        (cond w (branch k op_sum a l r) (cond x (branch k op_product a l r) (cond y (branch k op_star a l r) bad))))

    go : (u v w x y : Bool) → is_good (P u v w x y) ≡ true → P u v w x y ≡ cond u dead (cond v (leaf a) (bin (cond w op_sum (cond x op_product op_star)) l r))
    go true v w x y e = settle (eqb a 0 && eqb l 0 && eqb r 0) dead e
    go false true w x y e = settle (ltb 0 a && eqb l 0 && eqb r 0) (leaf a) e
    go false false true x y e = settle (eqb a 0 && ltb l k && ltb r k) (bin op_sum l r) e
    go false false false true y e = settle (eqb a 0 && ltb l k && ltb r k) (bin op_product l r) e
    go false false false false true e = settle (eqb a 0 && ltb l k && ltb r k) (bin op_star l r) e
    go false false false false false e = absurd (false≢true e)

-- being well formed is the tests themselves
good_of : (b : Bool) (x : Node) → is_good x ≡ true → b ≡ is_good (cond b x bad)
good_of true x e = sym e
good_of false x e = refl

module _ (s : List ℕ) (k m a l r : ℕ) (em : m ≡ kind_of s k) (ea : a ≡ action_of s k) (el : l ≡ left_of s k) (er : r ≡ right_of s k) where
  whole : node s k ≡ parse k m a l r
  unfolding node
  whole = rw (em, ea, el, er)

  pub good_dead : m ≡ 0 → eqb a 0 && eqb l 0 && eqb r 0 ≡ is_good (node s k)
  good_dead e = rw (whole, eq-eqb m 0 e) (good_of _ dead refl)

  pub good_leaf : m ≡ 1 → ltb 0 a && eqb l 0 && eqb r 0 ≡ is_good (node s k)
  good_leaf e = rw (whole, ne_eqb m 0 (λ q. omega arith), eq-eqb m 1 e) (good_of _ (leaf a) refl)

  pub good_bin : (m ≡ 0 → ⊥) → (m ≡ 1 → ⊥) → leb m 4 && eqb a 0 && ltb l k && ltb r k ≡ is_good (node s k)
  good_bin d0 d1 = rw (whole, ne_eqb m 0 d0, ne_eqb m 1 d1) (go (eqb m 2) (eqb m 3) (eqb m 4) refl refl refl)
    where
      go : (x y z : Bool) → eqb m 2 ≡ x → eqb m 3 ≡ y → eqb m 4 ≡ z
          → leb m 4 && eqb a 0 && ltb l k && ltb r k ≡ is_good (cond x (branch k op_sum a l r) (cond y (branch k op_product a l r) (cond z (branch k op_star a l r) bad)))
      go true y z p q w = let h = eqb-true m 2 p in rw (le-leb m 4 (omega arith)) (good_of _ (bin op_sum l r) refl)
      go false true z p q w = let h = eqb-true m 3 q in rw (le-leb m 4 (omega arith)) (good_of _ (bin op_product l r) refl)
      go false false true p q w = let h = eqb-true m 4 w in rw (le-leb m 4 (omega arith)) (good_of _ (bin op_star l r) refl)
      go false false false p q w =
          let h2 = eqb-false m 2 p in
          let h3 = eqb-false m 3 q in
          let h4 = eqb-false m 4 w in
          rw (lt-leb m 4 (above h2 h3 h4))
        where
          above : (m ≡ 2 → ⊥) → (m ≡ 3 → ⊥) → (m ≡ 4 → ⊥) → 5 ≤ m
          above h2 h3 h4 = omega arith

  pub good_branch : 2 ≤ m → m ≤ 4 → eqb a 0 && ltb l k && ltb r k ≡ is_good (node s k)
  good_branch h g = rw (le-leb m 4 g) at (good_bin (λ q. omega arith) (λ q. omega arith))

  pub good_none : 4 < m → false ≡ is_good (node s k)
  good_none h = rw (lt-leb m 4 h) at (good_bin (λ q. omega arith) (λ q. omega arith))

module _ (s : List ℕ) (k : ℕ) (good : is_good (node s k) ≡ true) where
  -- its kind is one of five
  pub kind_le : kind_of s k ≤ 4
  kind_le = by_cases (dec_lt 4 (kind_of s k)) (λ h. absurd (false≢true (good_none s k _ _ _ _ refl refl refl refl h ∙ good))) (λ h. omega arith)

  view : node s k ≡ plain (kind_of s k) (action_of s k) (left_of s k) (right_of s k)
  unfolding node
  view = parse_plain k (kind_of s k) (action_of s k) (left_of s k) (right_of s k) good

  pub at_dead : kind_of s k ≡ 0 → node s k ≡ dead
  at_dead e = rw (view, eq-eqb _ 0 e)

  pub at_leaf_lem : kind_of s k ≡ 1 → node s k ≡ leaf (action_of s k)
  at_leaf_lem e = rw (view, ne_eqb (kind_of s k) 0 (λ q. omega arith), eq-eqb _ 1 e)

  pub at_bin_lem : 2 ≤ kind_of s k → node s k ≡ bin (op_of (kind_of s k)) (left_of s k) (right_of s k)
  at_bin_lem h = rw (view, ne_eqb (kind_of s k) 0 (λ q. omega arith), ne_eqb (kind_of s k) 1 (λ q. omega arith))

  -- its operands are lower
  pub operands : 2 ≤ kind_of s k → (left_of s k < k) × (right_of s k < k)
  operands h = node_low s k _ _ _ (at_bin_lem h)

  pub not_leaf : (kind_of s k ≡ 1 → ⊥) → (x : ℕ) → node s k ≡ leaf x → ⊥
  not_leaf d x e = go (eqb (kind_of s k) 0) refl
    where
      big : (kind_of s k ≡ 0 → ⊥) → 2 ≤ kind_of s k
      big h = omega arith

      go : (b : Bool) → eqb (kind_of s k) 0 ≡ b → ⊥
      go true q = let z : dead ≡ leaf x = sym (at_dead (eqb-true _ 0 q)) ∙ e in let y : ◌≡◌ {A = ℕ} 0 1 = cc in omega arith
      go false q =
          let z : bin (op_of (kind_of s k)) (left_of s k) (right_of s k) ≡ leaf x = sym (at_bin_lem (big (eqb-false _ 0 q))) ∙ e in
          let y : ◌≡◌ {A = ℕ} 0 1 = cc in
          omega arith

  pub not_bin : kind_of s k < 2 → (o : Op) (l r : ℕ) → node s k ≡ bin o l r → ⊥
  not_bin h o l r e = go (kind_of s k) refl h
    where
      go : (d : ℕ) → kind_of s k ≡ d → d < 2 → ⊥
      go zero f i = apart (sym (at_dead f) ∙ e)
        where
          apart : dead ≡ bin o l r → ⊥
          apart z = let y : ◌≡◌ {A = ℕ} 0 1 = cc in omega arith
      go (suc zero) f i = apart (sym (at_leaf_lem f) ∙ e)
        where
          apart : {a : ℕ} → leaf a ≡ bin o l r → ⊥
          apart z = let y : ◌≡◌ {A = ℕ} 0 1 = cc in omega arith
      go (suc (suc d)) f i = omega arith

-- a leaf's action is a byte of the table, and not 0
abbrev Acts : List ℕ → ℕ → Node → Type 0
Acts s k bad = Unit {0}
Acts s k dead = Unit {0}
Acts s k (leaf a) = (0 < a) × (a ≡ action_of s k)
Acts s k (bin o l r) = Unit {0}

acts_either : (s : List ℕ) (k : ℕ) (b : Bool) (x y : Node) → Acts s k x → Acts s k y → Acts s k (cond b x y)
acts_either s k true x y p q = p
acts_either s k false x y p q = q

acts_leaf : (s : List ℕ) (k l r : ℕ) → Acts s k (cond (ltb 0 (action_of s k) && eqb l 0 && eqb r 0) (leaf (action_of s k)) bad)
acts_leaf s k l r = go (ltb 0 (action_of s k)) (eqb l 0) (eqb r 0) refl
  where
    go : (a b c : Bool) → ltb 0 (action_of s k) ≡ a → Acts s k (cond (a && b && c) (leaf (action_of s k)) bad)
    go false b c e = tt
    go true false c e = tt
    go true true false e = tt
    go true true true e = (ltb-true 0 (action_of s k) e, refl)

acts_branch : (s : List ℕ) (k : ℕ) (o : Op) (a l r : ℕ) → Acts s k (branch k o a l r)
acts_branch s k o a l r = acts_either s k (eqb a 0 && ltb l k && ltb r k) _ _ tt tt

pub leaf_action : (s : List ℕ) (k a : ℕ) → node s k ≡ leaf a → (0 < a) × (a ≡ action_of s k)
unfolding node
leaf_action s k a e =
    subst (Acts s k) e
    (let m = kind_of s k in
    let b = action_of s k in
    let l = left_of s k in
    let r = right_of s k in
    acts_either s k (eqb m 0) _ _ (acts_either s k (eqb b 0 && eqb l 0 && eqb r 0) _ _ tt tt)
    (acts_either s k (eqb m 1) _ _ (acts_leaf s k l r)
    (acts_either s k (eqb m 2) _ _ (acts_branch s k op_sum b l r)
    (acts_either s k (eqb m 3) _ _ (acts_branch s k op_product b l r)
    (acts_either s k (eqb m 4) _ _ (acts_branch s k op_star b l r) tt)))))
