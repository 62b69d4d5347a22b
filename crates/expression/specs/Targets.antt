-- Where every node leads, from the root down: the climb of document 01, each node's answer taken from its parent's.
use Rattle.std.specs.Prelude.{ℕ, ◌+◌, ◌<◌, ◌≤◌, ◌≡◌, true, ◌≢◌, List, length, get_or, set, Result, Ok, Err}
use Rattle.report.specs.declared.Refusal.{Refusal}
use Rattle.theory.specs.Nodes.{Op, op_sum, op_product, op_star, Node, bad, dead, leaf, bin, after}
use Rattle.theory.specs.ExpressionCharts.{vertex_of}
use Rattle.expression.specs.Table.{node, is_good, count}

-- the vertex that is reached after node j
unfoldable pub target_of : List ℕ → ℕ → ℕ
target_of s j = vertex_of (after (node s) (count s) j)

-- after the left operand of node k, whose operator, right operand and own target are given
abbrev pub aim_left : Op → ℕ → ℕ → ℕ → ℕ
aim_left op_sum k r t = t
aim_left op_product k r t = r + 1
aim_left op_star k r t = k + 1

-- the targets of the operands of node k, from its own
abbrev pub aim : ℕ → Node → List ℕ → List ℕ
aim k bad a = a
aim k dead a = a
aim k (leaf x) a = a
aim k (bin o l r) a = set (set a l (aim_left o k r (get_or a k 0))) r (get_or a k 0)

-- a has the targets of all nodes
pub record Targets (s : List ℕ) (a : List ℕ) : Type 0 where
  pub long : length a ≡ 128
  pub each : (j : ℕ) → j < count s → get_or a j 0 ≡ target_of s j

-- node k may have its turn where 255 stands for no target yet: it is well formed and has one, and its operands are two
-- nodes that have none
pub record Ready (s : List ℕ) (k : ℕ) (a : List ℕ) : Type 0 where
  pub good : is_good (node s k) ≡ true
  pub aimed : get_or a k 0 ≢ 255
  pub fresh : (o : Op) (l r : ℕ) → node s k ≡ bin o l r → (get_or a l 0 ≡ 255) × (get_or a r 0 ≡ 255) × (l ≢ r)

-- its turn: b is a with the targets of its operands
pub record Turn (s : List ℕ) (k : ℕ) (a b : List ℕ) : Type 0 where
  pub ready : Ready s k a
  pub is : b ≡ aim k (node s k) a

-- what the check of the nodes s makes of the bytes a that it is lent, by its answer: where the nodes pass, their targets,
-- and past these what stood there; where they are refused, what stood there
pub record TargetsAfter (s : List ℕ) (answer : Result Unit Refusal) (a b : List ℕ) : Type 0 where
  pub found : answer ≡ Ok tt → Targets s b
  pub past : (j : ℕ) → count s ≤ j → get_or b j 0 ≡ get_or a j 0
  pub kept : (p : Refusal) → answer ≡ Err p → b ≡ a
