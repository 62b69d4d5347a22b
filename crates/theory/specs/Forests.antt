-- A table of nodes while it grows: the trees that stand in it, by the row of their roots. In a table written in
-- post-order the row is the stack of what is not yet an operand, and its last two are joined.
use Rattle.std.specs.Prelude.{◌≡◌, List, [], ◌∷◌, ◌++◌, ℕ, suc, ◌+◌, ◌<◌, ◌≤◌, eqb}
use Rattle.theory.specs.Nodes.{Op, Node, bad, dead, leaf, bin, one, uses}

-- how often j stands in a list
unfoldable pub occurs : ℕ → List ℕ → ℕ
occurs j [] = 0
occurs j (x ∷ xs) = one (eqb x j) + occurs j xs

-- the first n nodes are trees with these roots: operands are lower than their node; each node is an operand exactly
-- once and no root, or a root and no operand; no other number is either
pub record Forest (nd : ℕ → Node) (n : ℕ) (row : List ℕ) : Type 0 where
  pub low : (k : ℕ) (o : Op) (l r : ℕ) → k < n → nd k ≡ bin o l r → (l < k) × (r < k)
  pub once : (j : ℕ) → j < n → uses nd n j + occurs j row ≡ 1
  pub none : (j : ℕ) → n ≤ j → uses nd n j + occurs j row ≡ 0

-- deadlock or an action
abbrev pub Plain : Node → Type 0
Plain bad = ⊥
Plain dead = Unit {0}
Plain (leaf a) = Unit {0}
Plain (bin o l r) = ⊥

-- n nodes, grown one by one: a node without operands becomes the last root of the row; a node whose operands are
-- neighbouring roots takes their place
pub data Grown (nd : ℕ → Node) : ℕ → List ℕ → Type 0 where
  empty : Grown nd 0 []
  plant : {n : ℕ} {row : List ℕ} → Plain (nd n) → Grown nd n row → Grown nd (suc n) (row ++ n ∷ [])
  join : {n : ℕ} {o : Op} {l r : ℕ} (xs ys : List ℕ) → nd n ≡ bin o l r
      → Grown nd n (xs ++ l ∷ r ∷ ys) → Grown nd (suc n) (xs ++ n ∷ ys)
