-- A table of nodes as the body of a record of kind 1, four bytes a node, and the body of an expression.
use Rattle.std.specs.Prelude.{List, [], ◌∷◌, ℕ, zero, suc}
use Rattle.theory.specs.Expressions.{Expr}
use Rattle.theory.specs.Nodes.{Op, op_sum, op_product, op_star, Node, bad, dead, leaf, bin}
use Rattle.theory.specs.PostOrders.{size, numbered}

abbrev pub op_byte : Op → ℕ
op_byte op_sum = 2
op_byte op_product = 3
op_byte op_star = 4

-- kind, action, left, right
abbrev pub kind_byte : Node → ℕ
kind_byte bad = 0
kind_byte dead = 0
kind_byte (leaf a) = 1
kind_byte (bin o l r) = op_byte o

abbrev pub action_byte : Node → ℕ
action_byte bad = 0
action_byte dead = 0
action_byte (leaf a) = a
action_byte (bin o l r) = 0

abbrev pub left_byte : Node → ℕ
left_byte bad = 0
left_byte dead = 0
left_byte (leaf a) = 0
left_byte (bin o l r) = l

abbrev pub right_byte : Node → ℕ
right_byte bad = 0
right_byte dead = 0
right_byte (leaf a) = 0
right_byte (bin o l r) = r

-- the n nodes from k on
unfoldable pub node_bytes_from : (ℕ → Node) → ℕ → ℕ → List ℕ
node_bytes_from nd k zero = []
node_bytes_from nd k (suc n) =
    kind_byte (nd k) ∷ action_byte (nd k) ∷ left_byte (nd k) ∷ right_byte (nd k) ∷ node_bytes_from nd (suc k) n

-- the first n nodes
abbrev pub bytes_of : (ℕ → Node) → ℕ → List ℕ
bytes_of nd n = node_bytes_from nd 0 n

-- an expression's nodes in post-order
abbrev pub table_of : Expr → List ℕ
table_of e = bytes_of (numbered e) (size e)
