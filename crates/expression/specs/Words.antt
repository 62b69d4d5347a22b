-- The first actions of every node as the bits of a word: bit i for the key of rank i.
use Rattle.std.specs.Prelude.{ℕ, suc, ◌<◌, ◌≡◌, ◌≢◌, ◌⊎◌, ◌↔◌, length, get_or}
use mathlib.Core.List.{List, Memᴰ}
use Rattle.bits.specs.Words.{On}
use Rattle.theory.specs.Nodes.{Op, Node, bin, first}
use Rattle.expression.specs.Table.{kind_of, node, count}

-- every leaf's rank is that of a bit
pub record LeafRanks (s ranks : List ℕ) : Type 0 where
  pub each : (j : ℕ) → j < count s → kind_of s j ≡ 1 → get_or ranks j 0 < 64

-- the bits of x are the ranks of these leaves
pub record RanksOf (ranks js : List ℕ) (x : ℕ) : Type 0 where
  pub exactly : (i : ℕ) → On x i ↔ ((j : ℕ) × Memᴰ j js × (get_or ranks j 0 ≡ i))

-- x is the word of a node of this kind whose operands have the words a and b: a product has that of its left one
pub record JoinedWord (kind a b x : ℕ) : Type 0 where
  pub left : kind ≡ 3 → x ≡ a
  pub both : kind ≢ 3 → (i : ℕ) → On x i ↔ (On a i ⊎ On b i)

-- j is node k or a node below it in the tree
pub data Under (nd : ℕ → Node) : ℕ → ℕ → Type 0 where
  itself : {k : ℕ} → Under nd k k
  by_left : {k : ℕ} {o : Op} {l r j : ℕ} → nd k ≡ bin o l r → Under nd l j → Under nd k j
  by_right : {k : ℕ} {o : Op} {l r j : ℕ} → nd k ≡ bin o l r → Under nd r j → Under nd k j

-- b has the word of node k, which is x, and those of the nodes below it, each at its vertex; all else is as in a
pub record Filled (s ranks : List ℕ) (k : ℕ) (a b : List ℕ) (x : ℕ) : Type 0 where
  pub long : length b ≡ length a
  pub own : RanksOf ranks (first (node s) k) x
  pub each : (j : ℕ) → Under (node s) k j → RanksOf ranks (first (node s) j) (get_or b (suc j) 0)
  pub kept : (u : ℕ) → (get_or b u 0 ≡ get_or a u 0) ⊎ ((j : ℕ) × Under (node s) k j × (u ≡ suc j))

-- words has those of the first actions of all nodes, each at its vertex, and 0 elsewhere
pub record Worded (s ranks words : List ℕ) : Type 0 where
  pub long : length words ≡ 128
  pub each : (j : ℕ) → j < count s → RanksOf ranks (first (node s) j) (get_or words (suc j) 0)
  pub end : get_or words 0 0 ≡ 0
  pub rest : (u : ℕ) → count s < u → get_or words u 0 ≡ 0
