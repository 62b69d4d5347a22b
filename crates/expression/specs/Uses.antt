-- How often each node is an operand, counted in one pass over the nodes.
use Rattle.std.specs.Prelude.{ℕ, ◌+◌, ◌≤◌, ◌≡◌, Bool, List, eqb, length, get_or, set}
use Rattle.theory.specs.Nodes.{Node, bad, dead, leaf, bin}
use Rattle.expression.specs.Table.{uses_below}

-- one more use of node j
unfoldable pub bump : List ℕ → ℕ → List ℕ
bump a j = set a j (get_or a j 0 + 1)

-- the uses that a node makes of its operands
abbrev pub tally : Node → List ℕ → List ℕ
tally bad a = a
tally dead a = a
tally (leaf x) a = a
tally (bin o l r) a = bump (bump a l) r

-- a has the uses that the nodes below k make
pub record Tallied (s : List ℕ) (k : ℕ) (a : List ℕ) : Type 0 where
  pub long : length a ≡ 128
  pub each : (j : ℕ) → get_or a j 0 ≡ uses_below s k j

pub record AtMost (m : ℕ) (a : List ℕ) : Type 0 where
  pub each : (j : ℕ) → get_or a j 0 ≤ m

unfoldable pub once_in : List ℕ → ℕ → Bool
once_in a j = eqb (get_or a j 0) 1
