-- A table in post-order is a tree whose root has the expression; it is determined, and it is what is numbered.
use mathlib.Core.Path.{◌≡◌, refl, sym, ap₂, ◌∙◌, subst}
use mathlib.Core.List.{List, [], ◌∷◌, ◌++◌, append_assoc}
use Prim.Native.Nat.{ℕ, suc, ◌+◌, ◌<◌, ◌≤◌}
use native.Mathlib.Omega.{arith}
use native.Mathlib.Decide.{dec_le}
use borrow.Author.Tests.{le-leb, lt-leb}
use Rattle.theory.specs.Expressions.{Expr, deadlock, act, sum, product, star}
use Rattle.theory.specs.Nodes.{Op, op_sum, op_product, op_star, Node, bad, dead, leaf, bin, grow, expr, Tree}
use Rattle.theory.specs.PostOrders.{PostOrder, dead_at, leaf_at, bin_at, size, root_from, joined, numbered_from, Acting}
use Rattle.theory.specs.Forests.{Grown, empty, plant, join}
use Rattle.theory.proofs.Down.{expr_at}
use Rattle.theory.proofs.Forests.{grown_tree}

size_grow : (o : Op) (e f : Expr) → size (grow o e f) ≡ suc (size e + size f)
size_grow op_sum e f = refl
size_grow op_product e f = refl
size_grow op_star e f = refl

module _ {nd : ℕ → Node} where
  -- its first node and its root
  pub post_low_high : {b r : ℕ} {e : Expr} → PostOrder nd b e r → b ≤ r
  post_low_high (dead_at q) = omega arith
  post_low_high (leaf_at q) = omega arith
  post_low_high (bin_at o h g q) = omega (arith, post_low_high h, post_low_high g)

  pub post_size : {b r : ℕ} {e : Expr} → PostOrder nd b e r → suc r ≡ b + size e
  post_size (dead_at q) = omega arith
  post_size (leaf_at q) = omega arith
  post_size (bin_at {e = e} {f = f} o h g q) = omega (arith, post_size h, post_size g, size_grow o e f)

  -- IT IS A TREE: it grows after the trees of a row, which is the stack of what is not yet an operand
  pub post_grown : {b r : ℕ} {e : Expr} {row : List ℕ} → Grown nd b row → PostOrder nd b e r → Grown nd (suc r) (row ++ r ∷ [])
  post_grown {b} g (dead_at q) = plant {n = b} (rw q tt) g
  post_grown {b} g (leaf_at q) = plant {n = b} (rw q tt) g
  post_grown {row = row} g (bin_at {m = m} {r = r} o h i q) =
      join row [] q (subst (Grown nd (suc r)) (append_assoc row (m ∷ []) (r ∷ [])) (post_grown (post_grown g h) i))

  pub post_tree : {e : Expr} {r : ℕ} → PostOrder nd 0 e r → Tree nd (suc r)
  post_tree h = (grown_tree (post_grown empty h)).1

  -- ITS ROOT HAS THE EXPRESSION
  pub post_expr : {n b r : ℕ} {e : Expr} → Tree nd n → PostOrder nd b e r → r < n → expr nd r ≡ e
  post_expr {n} {b} t (dead_at q) l = expr_at nd n t b l dead q
  post_expr {n} {b} t (leaf_at {a = a} q) l = expr_at nd n t b l (leaf a) q
  post_expr {n} t (bin_at {m = m} {r = r} o h g q) l =
      expr_at nd n t (suc r) l (bin o m r) q
      ∙ ap₂ (grow o) (post_expr t h (omega (arith, post_low_high g))) (post_expr t g (omega arith))

-- two tables that agree from b to r
pub post_same : {nd nd' : ℕ → Node} {b r : ℕ} {e : Expr} → ((k : ℕ) → b ≤ k → k ≤ r → nd k ≡ nd' k)
    → PostOrder nd b e r → PostOrder nd' b e r
post_same {b = b} s (dead_at q) = dead_at (sym (s b (omega arith) (omega arith)) ∙ q)
post_same {b = b} s (leaf_at q) = leaf_at (sym (s b (omega arith) (omega arith)) ∙ q)
post_same s (bin_at {r = r} o h g q) =
    let x = post_low_high h in let y = post_low_high g in
    bin_at o
    (post_same (λ k l u. s k l (omega arith)) h)
    (post_same (λ k l u. s k (omega arith) (omega arith)) g)
    (sym (s (suc r) (omega arith) (omega arith)) ∙ q)

-- WHAT STANDS IN IT: an action of the expression, deadlock, or operands that are lower
abbrev pub Good : (ℕ → Type 0) → ℕ → Node → Type 0
Good P k bad = ⊥
Good P k dead = Unit {0}
Good P k (leaf a) = P a
Good P k (bin o l r) = (l < k) × (r < k)

acting_parts : (P : ℕ → Type 0) (o : Op) (e f : Expr) → Acting P (grow o e f) → Acting P e × Acting P f
acting_parts P op_sum e f a = a
acting_parts P op_product e f a = a
acting_parts P op_star e f a = a

pub post_good : {nd : ℕ → Node} {b r : ℕ} {e : Expr} (P : ℕ → Type 0) → PostOrder nd b e r → Acting P e
    → (k : ℕ) → b ≤ k → k ≤ r → Good P k (nd k)
post_good {b = b} P (dead_at q) a k l u = let z : k ≡ b = omega arith in rw (z, q) tt
post_good {b = b} P (leaf_at q) a k l u = let z : k ≡ b = omega arith in rw (z, q) a
post_good P (bin_at {m = m} {r = r} {e = e} {f = f} o h g q) a k l u =
    let x = post_low_high h in let y = post_low_high g in
    let (c, d) = acting_parts P o e f a in
    elim (dec_le k m) [
      | yes i ↦ post_good P h c k l i
      | no i ↦ elim (dec_le k r) [
        | yes j ↦ post_good P g d k (omega arith) j
        | no j ↦ let z : k ≡ suc r = omega arith in rw (z, q) (omega arith, omega arith)
      ]
    ]

acting_grow : (P : ℕ → Type 0) (o : Op) (e f : Expr) → Acting P e → Acting P f → Acting P (grow o e f)
acting_grow P op_sum e f a b = (a, b)
acting_grow P op_product e f a b = (a, b)
acting_grow P op_star e f a b = (a, b)

-- the expression's actions are those of the leaves
pub post_acting : {nd : ℕ → Node} {b r : ℕ} {e : Expr} (P : ℕ → Type 0) → ((k a : ℕ) → nd k ≡ leaf a → P a)
    → PostOrder nd b e r → Acting P e
post_acting P h (dead_at q) = tt
post_acting {b = b} P h (leaf_at {a = a} q) = h b a q
post_acting P h (bin_at {e = e} {f = f} o x y q) = acting_grow P o e f (post_acting P h x) (post_acting P h y)

-- TWO TABLES JOINED
module _ (o : Op) (l r : ℕ) (x y : ℕ → Node) where
  joined_left : (k : ℕ) → k ≤ l → x k ≡ joined o l r x y k
  joined_left k h = rw (le-leb k l h)

  joined_right : (k : ℕ) → l < k → k ≤ r → y k ≡ joined o l r x y k
  joined_right k h g = rw (lt-leb k l h, le-leb k r g)

  joined_root : l ≤ r → bin o l r ≡ joined o l r x y (suc r)
  joined_root h = rw (lt-leb (suc r) l (omega arith), lt-leb (suc r) r (omega arith))

  joined_post : {b : ℕ} {e f : Expr} → PostOrder x b e l → PostOrder y (suc l) f r
      → PostOrder (joined o l r x y) b (grow o e f) (suc r)
  joined_post h g =
      bin_at o
      (post_same (λ k a b. joined_left k b) h)
      (post_same joined_right g)
      (sym (joined_root (omega (arith, post_low_high g))))

-- THE TABLE THAT IS NUMBERED
pub numbered_post : (b : ℕ) (e : Expr) → PostOrder (numbered_from b e) b e (root_from b e)
unfolding numbered_from
numbered_post b deadlock = dead_at refl
numbered_post b (act a) = leaf_at refl
numbered_post b (sum e f) = joined_post op_sum _ _ _ _ (numbered_post b e) (numbered_post (suc (root_from b e)) f)
numbered_post b (product e f) = joined_post op_product _ _ _ _ (numbered_post b e) (numbered_post (suc (root_from b e)) f)
numbered_post b (star e f) = joined_post op_star _ _ _ _ (numbered_post b e) (numbered_post (suc (root_from b e)) f)

pub root_size : (b : ℕ) (e : Expr) → suc (root_from b e) ≡ b + size e
root_size b e = post_size (numbered_post b e)

pub post_root : {nd : ℕ → Node} {b r : ℕ} {e : Expr} → PostOrder nd b e r → r ≡ root_from b e
post_root {b = b} {e = e} h = omega (arith, post_size h, root_size b e)

-- IT IS THE ONLY ONE
numbered_grow : (o : Op) (b : ℕ) (e f : Expr) {m r : ℕ} → m ≡ root_from b e → r ≡ root_from (suc m) f → (k : ℕ)
    → joined o m r (numbered_from b e) (numbered_from (suc m) f) k ≡ numbered_from b (grow o e f) k
unfolding numbered_from
numbered_grow op_sum b e f p q k = rw (q, p)
numbered_grow op_product b e f p q k = rw (q, p)
numbered_grow op_star b e f p q k = rw (q, p)

pub post_numbered : {nd : ℕ → Node} {b r : ℕ} {e : Expr} → PostOrder nd b e r → (k : ℕ) → b ≤ k → k ≤ r → nd k ≡ numbered_from b e k
unfolding numbered_from
post_numbered {b = b} (dead_at q) k l u = let z : k ≡ b = omega arith in rw z q
post_numbered {b = b} (leaf_at q) k l u = let z : k ≡ b = omega arith in rw z q
post_numbered {b = b} (bin_at {m = m} {r = r} {e = e} {f = f} o h g q) k l u =
    let x = numbered_from b e in let y = numbered_from (suc m) f in
    elim (dec_le k m) [
      | yes i ↦ post_numbered h k l i ∙ joined_left o m r x y k i
      | no i ↦ elim (dec_le k r) [
        | yes j ↦ post_numbered g k (omega arith) j ∙ joined_right o m r x y k (omega arith) j
        | no j ↦ let z : k ≡ suc r = omega arith in rw z (q ∙ joined_root o m r x y (omega (arith, post_low_high g)))
      ]
    ] ∙ numbered_grow o b e f (post_root h) (post_root g) k
