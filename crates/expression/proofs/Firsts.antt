-- The first actions of a node, from those of its operands.
use Prim.Native.Nat.{ℕ, ◌<◌, ◌≤◌}
use mathlib.Core.Path.{◌≡◌, refl, ◌∙◌}
use mathlib.Core.Bool.{Bool, true, false, cond}
use mathlib.Core.List.{List, [], ◌∷◌, ◌++◌}
use native.Mathlib.Omega.{arith}
use lib.Dec.{eqb}
use borrow.Author.Tests.{eq-eqb, ne_eqb}
use Rattle.theory.specs.Nodes.{op_sum, op_product, op_star, dead, leaf, join, first}
use Rattle.theory.proofs.Down.{first_at}
use Rattle.expression.specs.Table.{kind_of, action_of, left_of, right_of, node, count, op_of, WellFormed}
use Rattle.expression.proofs.Table.{tree}
use Rattle.expression.proofs.View.{at_dead, at_leaf_lem, at_bin_lem}

module _ (s : List ℕ) (w : WellFormed s) (k : ℕ) (h : k < count s) where
  pub first_dead : kind_of s k ≡ 0 → first (node s) k ≡ []
  first_dead e = first_at (node s) (count s) (tree s w) k h dead (at_dead s k (w.good k h) e)

  pub first_own : kind_of s k ≡ 1 → first (node s) k ≡ k ∷ []
  first_own e = first_at (node s) (count s) (tree s w) k h (leaf (action_of s k)) (at_leaf_lem s k (w.good k h) e)

  first_bin : 2 ≤ kind_of s k → first (node s) k ≡ join (op_of (kind_of s k)) (first (node s) (left_of s k)) (first (node s) (right_of s k))
  first_bin q = first_at (node s) (count s) (tree s w) k h _ (at_bin_lem s k (w.good k h) q)

  pub first_left : kind_of s k ≡ 3 → first (node s) k ≡ first (node s) (left_of s k)
  first_left e = rw (first_bin (omega arith), ne_eqb (kind_of s k) 2 (λ q. omega arith), eq-eqb (kind_of s k) 3 e)

  pub first_both : 2 ≤ kind_of s k → (kind_of s k ≡ 3 → ⊥) → first (node s) k ≡ first (node s) (left_of s k) ++ first (node s) (right_of s k)
  first_both q n = first_bin q ∙ go (first (node s) (left_of s k)) (first (node s) (right_of s k)) (eqb (kind_of s k) 2) (eqb (kind_of s k) 3) (ne_eqb (kind_of s k) 3 n)
    where
      go : (a b : List ℕ) (x y : Bool) → y ≡ false → join (cond x op_sum (cond y op_product op_star)) a b ≡ a ++ b
      go a b true y e = refl
      go a b false true e = absurd (let z : ◌≡◌ {A = ℕ} 0 1 = cc in omega arith)
      go a b false false e = refl
