-- The body of a record of kind 1: four bytes a node; the checks 10, 11 and 12; and what makes it well formed.
use Rattle.std.specs.Prelude.{ℕ, suc, ◌+◌, ◌-◌, ◌*◌, ◌/◌, ◌%◌, ◌<◌, ◌≤◌, ◌≡◌, Bool, true, false, cond, ◌&&◌, not, List, eqb, ltb, leb, length, get_or, Result, Ok, Err}
use Rattle.report.specs.declared.Refusal.{Refusal}
use Rattle.report.specs.declared.Refusal.TheVariants as refusal
use Rattle.theory.specs.Tests as tests
use Rattle.theory.specs.Nodes.{Op, op_sum, op_product, op_star, Node, bad, dead, leaf, bin, uses}

-- the four fields of node k: kind, action, left, right
abbrev pub kind_of : List ℕ → ℕ → ℕ
kind_of s k = get_or s (4 * k) 0

abbrev pub action_of : List ℕ → ℕ → ℕ
action_of s k = get_or s (4 * k + 1) 0

abbrev pub left_of : List ℕ → ℕ → ℕ
left_of s k = get_or s (4 * k + 2) 0

abbrev pub right_of : List ℕ → ℕ → ℕ
right_of s k = get_or s (4 * k + 3) 0

-- a node with operands: they are lower than its own number, and it has no action
abbrev pub branch : ℕ → Op → ℕ → ℕ → ℕ → Node
branch k o a l r = cond (eqb a 0 && ltb l k && ltb r k) (bin o l r) bad

-- what stands at node k, from its four fields
abbrev pub parse : ℕ → ℕ → ℕ → ℕ → ℕ → Node
parse k m a l r =
    cond (eqb m 0) (cond (eqb a 0 && eqb l 0 && eqb r 0) dead bad)
    (cond (eqb m 1) (cond (ltb 0 a && eqb l 0 && eqb r 0) (leaf a) bad)
    (cond (eqb m 2) (branch k op_sum a l r)
    (cond (eqb m 3) (branch k op_product a l r)
    (cond (eqb m 4) (branch k op_star a l r)
    bad))))

-- the operator of the kinds 2 to 4
abbrev pub op_of : ℕ → Op
op_of m = cond (eqb m 2) op_sum (cond (eqb m 3) op_product op_star)

unfoldable pub node : List ℕ → ℕ → Node
node s k = parse k (kind_of s k) (action_of s k) (left_of s k) (right_of s k)

abbrev pub is_good : Node → Bool
is_good bad = false
is_good dead = true
is_good (leaf a) = true
is_good (bin o l r) = true

-- the number of nodes; the last is the root
unfoldable pub count : List ℕ → ℕ
count s = length s / 4

-- of the m numbers from i on, the lowest at which a test fails, or the next after them
unfoldable pub lowest_failing : (ℕ → Bool) → ℕ → ℕ → ℕ
lowest_failing ok i m = tests.lowest (λ k. not (ok k)) i m

-- 10: 1 to 127 nodes of four bytes
abbrev pub length_ok : List ℕ → Bool
length_ok s = ltb 0 (length s) && leb (length s) 508 && eqb (length s % 4) 0

-- 11: the lowest malformed node, or their number
abbrev pub node_ok : List ℕ → ℕ → Bool
node_ok s k = is_good (node s k)

unfoldable pub malformed : List ℕ → ℕ
malformed s = lowest_failing (node_ok s) 0 (count s)

-- how often node j is an operand of the nodes below k, and of all
abbrev pub uses_below : List ℕ → ℕ → ℕ → ℕ
uses_below s k j = uses (node s) k j

abbrev pub uses_of : List ℕ → ℕ → ℕ
uses_of s j = uses_below s (count s) j

-- 12: the lowest node but the root that is not an operand exactly once, or the root
abbrev pub used_once : List ℕ → ℕ → Bool
used_once s j = eqb (uses_of s j) 1

unfoldable pub misused : List ℕ → ℕ
misused s = lowest_failing (used_once s) 0 (count s - 1)

unfoldable pub check_of : List ℕ → Result Unit Refusal
check_of s =
    cond (length_ok s)
    (cond (ltb (malformed s) (count s)) (Err (refusal.Node (malformed s)))
    (cond (ltb (misused s) (count s - 1)) (Err (refusal.NodeUses (misused s) (uses_of s (misused s))))
    (Ok tt)))
    (Err (refusal.NodesLength (length s)))

-- 1 to 127 nodes
pub record Sized (s : List ℕ) : Type 0 where
  pub some : 1 ≤ count s
  pub few : count s ≤ 127
  pub whole : length s ≡ 4 * count s

-- node k is there and well formed
pub record NodeAt (s : List ℕ) (k : ℕ) : Type 0 where
  pub sized : Sized s
  pub inside : k < count s
  pub good : is_good (node s k) ≡ true

-- what the three checks ask
pub record WellFormed (s : List ℕ) : Type 0 where
  pub sized : Sized s
  pub good : (k : ℕ) → k < count s → is_good (node s k) ≡ true
  pub once : (j : ℕ) → suc j < count s → uses (node s) (count s) j ≡ 1

-- what each answer of the checks says
pub data NodesChecked (s : List ℕ) : Result Unit Refusal → Type 0 where
  passed : WellFormed s → NodesChecked s (Ok tt)
  ill_sized : (Sized s → ⊥) → NodesChecked s (Err (refusal.NodesLength (length s)))
  malformed_at : (p : ℕ) → Sized s → p < count s → is_good (node s p) ≡ false
      → ((k : ℕ) → k < p → is_good (node s k) ≡ true) → NodesChecked s (Err (refusal.Node p))
  misused_at : (p : ℕ) → Sized s → ((k : ℕ) → k < count s → is_good (node s k) ≡ true)
      → suc p < count s → (uses_of s p ≡ 1 → ⊥) → ((j : ℕ) → j < p → uses_of s j ≡ 1)
      → NodesChecked s (Err (refusal.NodeUses p (uses_of s p)))
