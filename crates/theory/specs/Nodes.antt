-- A table of nodes as a function from a node's number to what stands there; what is read off it by going down (the
-- expression of a node, its first actions) and by climbing (what remains after a node).
use Rattle.std.specs.Prelude.{ℕ, zero, suc, ◌+◌, ◌<◌, ◌≤◌, ◌≡◌, Bool, true, false, cond, eqb}
use mathlib.Core.List.{List, [], ◌∷◌, ◌++◌, map, foldl}
use Rattle.theory.specs.Expressions.{Expr, deadlock, act, sum, product, star, Target, end, to}

pub data Op : Type 0 where
  op_sum op_product op_star : Op

-- nothing well formed, deadlock, an action, or an operator with its left and its right operand
pub data Node : Type 0 where
  bad : Node
  dead : Node
  leaf : ℕ → Node
  bin : Op → ℕ → ℕ → Node

-- GOING DOWN. The answer at a node from its number, what stands there and the answers at other nodes, with a fuel that
-- bounds the depth
unfoldable pub down_f : {A : Type 0} → (ℕ → Node → (ℕ → A) → A) → A → (ℕ → Node) → ℕ → ℕ → A
down_f alg none nd zero k = none
down_f alg none nd (suc f) k = alg k (nd k) (down_f alg none nd f)

-- operands are lower, so that the node's number bounds the depth
unfoldable pub down : {A : Type 0} → (ℕ → Node → (ℕ → A) → A) → A → (ℕ → Node) → ℕ → A
down alg none nd k = down_f alg none nd (suc k) k

-- the expression of a node
abbrev pub grow : Op → Expr → Expr → Expr
grow op_sum e f = sum e f
grow op_product e f = product e f
grow op_star e f = star e f

abbrev pub expr_alg : ℕ → Node → (ℕ → Expr) → Expr
expr_alg k bad x = deadlock
expr_alg k dead x = deadlock
expr_alg k (leaf a) x = act a
expr_alg k (bin o l r) x = grow o (x l) (x r)

unfoldable pub expr : (ℕ → Node) → ℕ → Expr
expr nd k = down expr_alg deadlock nd k

-- the leaves that a node can do first: for sum and star those of both operands, for product those of the left one
abbrev pub join : Op → List ℕ → List ℕ → List ℕ
join op_sum a b = a ++ b
join op_product a b = a
join op_star a b = a ++ b

abbrev pub first_alg : ℕ → Node → (ℕ → List ℕ) → List ℕ
first_alg k bad x = []
first_alg k dead x = []
first_alg k (leaf a) x = k ∷ []
first_alg k (bin o l r) x = join o (x l) (x r)

unfoldable pub first : (ℕ → Node) → ℕ → List ℕ
first nd k = down first_alg [] nd k

-- CLIMBING. What stands above a node: nothing; a parent p from which to climb on; or a remainder r, and then p
pub data Up : Type 0 where
  top : Up
  on : ℕ → Up
  over : ℕ → ℕ → Up

-- above the left operand of node k, whose operator and right operand are given: from the left of a product go to its
-- right operand, from the left of a star to that star
abbrev pub above_left : Op → ℕ → ℕ → Up
above_left op_sum k r = on k
above_left op_product k r = over r k
above_left op_star k r = over k k

-- above j: by node k where k has it as an operand, or else u
abbrev pub up_in : ℕ → Node → ℕ → Up → Up
up_in k bad j u = u
up_in k dead j u = u
up_in k (leaf a) j u = u
up_in k (bin o l r) j u = cond (eqb l j) (above_left o k r) (cond (eqb r j) (on k) u)

-- above j, in the first n nodes
unfoldable pub up : (ℕ → Node) → ℕ → ℕ → Up
up nd zero j = top
up nd (suc n) j = up_in n (nd n) j (up nd n j)

-- how often node j is an operand
abbrev pub one : Bool → ℕ
one true = 1
one false = 0

abbrev pub uses_in : Node → ℕ → ℕ
uses_in bad j = 0
uses_in dead j = 0
uses_in (leaf a) j = 0
uses_in (bin o l r) j = one (eqb l j) + one (eqb r j)

unfoldable pub uses : (ℕ → Node) → ℕ → ℕ → ℕ
uses nd zero j = 0
uses nd (suc n) j = uses nd n j + uses_in (nd n) j

-- the nodes that remain after j, in turn
abbrev pub follow : Up → (ℕ → List ℕ) → List ℕ
follow top x = []
follow (on p) x = x p
follow (over r p) x = r ∷ x p

-- with a fuel, as in going down: the answer at a node from its number, what stands above it and the answers higher up
unfoldable pub rise_f : {A : Type 0} → (ℕ → Up → (ℕ → A) → A) → A → (ℕ → Node) → ℕ → ℕ → ℕ → A
rise_f alg none nd n zero j = none
rise_f alg none nd n (suc f) j = alg j (up nd n j) (rise_f alg none nd n f)

unfoldable pub rise : {A : Type 0} → (ℕ → Up → (ℕ → A) → A) → A → (ℕ → Node) → ℕ → ℕ → A
rise alg none nd n j = rise_f alg none nd n n j

unfoldable pub after : (ℕ → Node) → ℕ → ℕ → List ℕ
after nd n j = rise (λ i. follow) [] nd n j

-- the remainders as expressions, and the residual of a node: its expression multiplied on the right by them in turn
unfoldable pub remainders : (ℕ → Node) → ℕ → ℕ → List Expr
remainders nd n k = map (expr nd) (after nd n k)

unfoldable pub residual : (ℕ → Node) → ℕ → ℕ → Expr
residual nd n k = foldl product (expr nd k) (remainders nd n k)

-- vertex k + 1 stands for the residual of node k, vertex 0 for the end
abbrev pub meaning : (ℕ → Node) → ℕ → ℕ → Target
meaning nd n zero = end
meaning nd n (suc k) = to (residual nd n k)

-- the relation of a vertex to what it stands for
abbrev pub Means : (ℕ → Node) → ℕ → ℕ → Target → Type 0
Means nd n v ξ = (v ≤ n) × (meaning nd n v ≡ ξ)

-- LEAVES. Node j is below n and does an action; an action that some leaf does
abbrev pub IsLeaf : (ℕ → Node) → ℕ → ℕ → Type 0
IsLeaf nd n j = (a : ℕ) × (nd j ≡ leaf a) × (j < n)

abbrev pub LeafAction : (ℕ → Node) → ℕ → ℕ → Type 0
LeafAction nd n a = (j : ℕ) × (j < n) × (nd j ≡ leaf a)

-- w at a leaf, 0 elsewhere
abbrev pub at_leaf : Node → ℕ → ℕ
at_leaf bad w = 0
at_leaf dead w = 0
at_leaf (leaf a) w = w
at_leaf (bin o l r) w = 0

-- TREES. A table of n nodes in which operands are lower than the node, and every node but the last is an operand
-- exactly once
pub record Tree (nd : ℕ → Node) (n : ℕ) : Type 0 where
  pub low : (k : ℕ) (o : Op) (l r : ℕ) → k < n → nd k ≡ bin o l r → (l < k) × (r < k)
  pub once : (j : ℕ) → suc j < n → uses nd n j ≡ 1
