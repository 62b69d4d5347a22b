-- The chart of an expression as document 01 tells it, node by node: the first actions of a node, and the climb from a
-- leaf to the vertex that it leads to. `first` and `after` in Nodes compute them.
use Rattle.std.specs.Prelude.{ℕ, suc, ◌<◌, ◌≡◌}
use Rattle.theory.specs.Nodes.{Op, op_sum, op_product, op_star, Node, leaf, bin}

-- leaf j is among the first actions of node k: for sum and star those of both operands, for product those of the left
-- one, for deadlock none
pub data FirstOf (nd : ℕ → Node) : (k j : ℕ) → Type 0 where
  itself : {k a : ℕ} → nd k ≡ leaf a → FirstOf nd k k
  sum_left : {k l r j : ℕ} → nd k ≡ bin op_sum l r → FirstOf nd l j → FirstOf nd k j
  sum_right : {k l r j : ℕ} → nd k ≡ bin op_sum l r → FirstOf nd r j → FirstOf nd k j
  star_left : {k l r j : ℕ} → nd k ≡ bin op_star l r → FirstOf nd l j → FirstOf nd k j
  star_right : {k l r j : ℕ} → nd k ≡ bin op_star l r → FirstOf nd r j → FirstOf nd k j
  product_left : {k l r j : ℕ} → nd k ≡ bin op_product l r → FirstOf nd l j → FirstOf nd k j

-- the climb from node j, one of n, ends at vertex t: from the left of a product it goes to its right operand, from the
-- left of a star to that star, otherwise it climbs on, and above the root is the end
pub data ClimbsTo (nd : ℕ → Node) (n : ℕ) : (j t : ℕ) → Type 0 where
  left_of_product : {k j r : ℕ} → k < n → nd k ≡ bin op_product j r → ClimbsTo nd n j (suc r)
  left_of_star : {k j r : ℕ} → k < n → nd k ≡ bin op_star j r → ClimbsTo nd n j (suc k)
  left_of_sum : {k j r t : ℕ} → k < n → nd k ≡ bin op_sum j r → ClimbsTo nd n k t → ClimbsTo nd n j t
  on_the_right : {k j l t : ℕ} {o : Op} → k < n → nd k ≡ bin o l j → ClimbsTo nd n k t → ClimbsTo nd n j t
  above_root : {j : ℕ} → n ≡ suc j → ClimbsTo nd n j 0

-- from the vertex of node k by action a to vertex t: some leaf among the first actions of node k does a, and the climb
-- from this leaf ends at t
abbrev pub LeadsBy : (ℕ → Node) → (n k a t : ℕ) → Type 0
LeadsBy nd n k a t = (j : ℕ) × FirstOf nd k j × (nd j ≡ leaf a) × ClimbsTo nd n j t
