-- One node more on the way from the root down.
use Prim.Native.Nat.{ℕ, zero, suc, ◌-◌, ◌<◌, ◌≤◌}
use mathlib.Core.Path.{◌≡◌, refl, ap, ◌∙◌}
use mathlib.Core.Bool.{Bool, true, false}
use mathlib.Core.Logic.{◌⊎◌, ⊎_elim}
use mathlib.Core.List.{List, [], ◌∷◌}
use native.Mathlib.Nat.{eq-or-lt_of_le}
use native.Mathlib.Numerals.{add-one}
use native.Mathlib.Omega.{arith}
use lib.Dec.{eqb}
use lib.ListN.{length, get_or, set, replicate, length-set, length-replicate}
use lib.Seq.{get_or-set_same}
use borrow.Author.Tests.{eqb-true, eqb-false}
use Rattle.theory.specs.Nodes.{Op, op_sum, op_product, op_star, Node, bad, dead, leaf, bin, uses_in, follow, above_left, after}
use Rattle.theory.specs.ExpressionCharts.{vertex_of}
use Rattle.theory.proofs.Up.{after_left, after_right, after_last}
use Rattle.theory.proofs.Climbs.{operand, user}
use Rattle.expression.specs.Table.{kind_of, left_of, right_of, node, is_good, count, op_of, WellFormed}
use Rattle.expression.specs.Targets.{target_of, aim_left, aim, Targets}
use Rattle.expression.proofs.Table.{node_low, tree}
use Rattle.expression.proofs.View.{at_dead, at_leaf_lem, at_bin_lem}

-- a has the targets of the root and of the operands of node k and those above it
pub record Aimed (s : List ℕ) (k : ℕ) (a : List ℕ) : Type 0 where
  pub long : length a ≡ 128
  pub root : get_or a (count s - 1) 0 ≡ target_of s (count s - 1)
  pub operand : (p j : ℕ) → k ≤ p → p < count s → 0 < uses_in (node s p) j → get_or a j 0 ≡ target_of s j

-- storing what is right keeps what is right
set_keep : (a : List ℕ) (i j v x : ℕ) → (i ≡ j → v ≡ x) → get_or a j 0 ≡ x → get_or (set a i v) j 0 ≡ x
set_keep [] i j v x f e = e
set_keep (y ∷ a) zero zero v x f e = f refl
set_keep (y ∷ a) zero (suc j) v x f e = e
set_keep (y ∷ a) (suc i) zero v x f e = e
set_keep (y ∷ a) (suc i) (suc j) v x f e = set_keep a i j v x (λ q. f (ap suc q)) e

pub zeros : (m j : ℕ) → get_or (replicate {A = ℕ} m 0) j 0 ≡ 0
zeros zero j = refl
zeros (suc m) zero = refl
zeros (suc m) (suc j) = zeros m j

module _ (s : List ℕ) (w : WellFormed s) where
  module _ (k : ℕ) (h : k < count s) (o : Op) (l r : ℕ) (e : node s k ≡ bin o l r) where
    left_target_lem : (t : ℕ) → t ≡ target_of s k → aim_left o k r t ≡ target_of s l
    unfolding target_of
    left_target_lem t q = rw (after_left (node s) (count s) (tree s w) k h o l r e) (go o)
      where
        go : (p : Op) → aim_left p k r t ≡ vertex_of (follow (above_left p k r) (after (node s) (count s)))
        go op_sum = q
        go op_product = add-one r
        go op_star = add-one k

    right_target : target_of s k ≡ target_of s r
    unfolding target_of
    right_target = rw (after_right (node s) (count s) (tree s w) k h o l r e)

  -- the root leads to the end
  root_target : 0 ≡ target_of s (count s - 1)
  unfolding target_of
  root_target = rw (after_last (node s) (count s) (tree s w) (count s - 1) (let z = w.sized.some in omega arith))

  -- the node's own target is there: its user is above it
  pub own_target : (k : ℕ) (a : List ℕ) → k < count s → Aimed s (suc k) a → get_or a k 0 ≡ target_of s k
  own_target k a h i = ⊎_elim (λ (e : suc k ≡ count s). let d : k ≡ count s - 1 = omega arith in rw d i.root) used (eq-or-lt_of_le h)
    where
      above : (p : ℕ) (v : Node) → node s p ≡ v → 0 < uses_in v k → k < p
      above p bad e u = absurd (omega arith)
      above p dead e u = absurd (omega arith)
      above p (leaf x) e u = absurd (omega arith)
      above p (bin o l r) e u = let b = node_low s p o l r e in ⊎_elim (λ (q : l ≡ k). omega arith) (λ (q : r ≡ k). omega arith) (operand o l r k u)

      used : suc k < count s → get_or a k 0 ≡ target_of s k
      used q =
          let o = w.once k q in
          let u = user (node s) (count s) k (omega arith) in
          i.operand u.0 k (above u.0 (node s u.0) refl u.2) u.1 u.2

  pub aim_next : (k : ℕ) (a b : List ℕ) → k < count s → Aimed s (suc k) a → b ≡ aim k (node s k) a → Aimed s k b
  aim_next k a b h i e = go (node s k) refl e
    where
      -- a node with no operands: nothing changes
      same : (v : Node) → node s k ≡ v → ((j : ℕ) → 0 < uses_in v j → ⊥) → b ≡ a → Aimed s k b
      same v ev none q = rw q (record {
        long = i.long;
        root = i.root;
        operand = λ p j l lt u. ⊎_elim (λ (d : k ≡ p). absurd (none j (rw (ev) at (rw (← d) at u)))) (λ (d : k < p). i.operand p j d lt u) (eq-or-lt_of_le l);
      })

      both : (o : Op) (l r : ℕ) → node s k ≡ bin o l r → b ≡ aim k (bin o l r) a → Aimed s k b
      both o l r ev q =
          let t = own_target k a h i in
          let low = node_low s k o l r ev in
          let few = w.sized.few in
          let long = i.long in
          let x : aim_left o k r (get_or a k 0) ≡ target_of s l = left_target_lem k h o l r ev (get_or a k 0) t in
          let y : get_or a k 0 ≡ target_of s r = t ∙ right_target k h o l r ev in
          rw q (stored l r (aim_left o k r (get_or a k 0)) (get_or a k 0) x y (omega arith) (omega arith) (λ j u. operand o l r j (rw ev at u)))
        where
          stored : (l r x y : ℕ) → x ≡ target_of s l → y ≡ target_of s r → l < length a → r < length a
              → ((j : ℕ) → 0 < uses_in (node s k) j → (l ≡ j) ⊎ (r ≡ j)) → Aimed s k (set (set a l x) r y)
          stored l r x y ex ey hl hr split = record {
            long = simp length-set i.long;
            root = keep (count s - 1) i.root;
            operand = λ p j g lt u. ⊎_elim
                (λ (d : k ≡ p). ⊎_elim (is_left j) (is_right j) (split j (rw (← d) at u)))
                (λ (d : k < p). keep j (i.operand p j d lt u))
                (eq-or-lt_of_le g);
          }
            where
              keep_right : (j : ℕ) → get_or (set a l x) j 0 ≡ target_of s j → get_or (set (set a l x) r y) j 0 ≡ target_of s j
              keep_right j q = set_keep (set a l x) r j y (target_of s j) (λ d. ey ∙ ap (target_of s) d) q

              keep : (j : ℕ) → get_or a j 0 ≡ target_of s j → get_or (set (set a l x) r y) j 0 ≡ target_of s j
              keep j q = keep_right j (set_keep a l j x (target_of s j) (λ d. ex ∙ ap (target_of s) d) q)

              is_left : (j : ℕ) → l ≡ j → get_or (set (set a l x) r y) j 0 ≡ target_of s j
              is_left j d = rw (← d) (keep_right l (get_or-set_same a l x 0 hl ∙ ex))

              is_right : (j : ℕ) → r ≡ j → get_or (set (set a l x) r y) j 0 ≡ target_of s j
              is_right j d = rw (← d) (get_or-set_same (set a l x) r y 0 (simp length-set hr) ∙ ey)

      go : (v : Node) → node s k ≡ v → b ≡ aim k v a → Aimed s k b
      go bad ev q = same bad ev (λ j u. omega arith) q
      go dead ev q = same dead ev (λ j u. omega arith) q
      go (leaf x) ev q = same (leaf x) ev (λ j u. omega arith) q
      go (bin o l r) ev q = both o l r ev q

  -- only the root's target counts at the start
  pub aim_from : (n : ℕ) (a : List ℕ) → n ≡ count s → length a ≡ 128 → get_or a (count s - 1) 0 ≡ 0 → Aimed s n a
  aim_from n a e long z = record { long = long; root = z ∙ root_target; operand = λ p j g lt u. absurd (omega arith) }

  pub aim_start : (n : ℕ) → n ≡ count s → Aimed s n (replicate 128 0)
  aim_start n e = aim_from n (replicate 128 0) e (length-replicate {A = ℕ} 128 0) (zeros 128 (count s - 1))

  pub aim_end : (a : List ℕ) → Aimed s 0 a → Targets s a
  aim_end a i = record { long = i.long; each = λ j h. own_target j a h (later j) }
    where
      later : (j : ℕ) → Aimed s (suc j) a
      later j = record { long = i.long; root = i.root; operand = λ p q g lt u. i.operand p q (omega arith) lt u }

-- what the code stores
module _ (s : List ℕ) (k : ℕ) (good : is_good (node s k) ≡ true) where
  pub aim_none : (a : List ℕ) → kind_of s k < 2 → a ≡ aim k (node s k) a
  aim_none a q = go (eqb (kind_of s k) 0) refl
    where
      go : (b : Bool) → eqb (kind_of s k) 0 ≡ b → a ≡ aim k (node s k) a
      go true e = rw (at_dead s k good (eqb-true (kind_of s k) 0 e))
      go false e = let d = eqb-false (kind_of s k) 0 e in rw (at_leaf_lem s k good (omega arith))

  pub aim_both : (a : List ℕ) (m l r t : ℕ) → 2 ≤ kind_of s k → m ≡ kind_of s k → l ≡ left_of s k → r ≡ right_of s k
      → t ≡ aim_left (op_of m) k r (get_or a k 0) → set (set a l t) r (get_or a k 0) ≡ aim k (node s k) a
  aim_both a m l r t q em el er et = rw (at_bin_lem s k good q, et, em, el, er)
