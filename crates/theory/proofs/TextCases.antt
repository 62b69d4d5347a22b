-- G's chart gives G's expression, computed of the definitions with its table; so do a loop inside a loop, and sums of three and of none.
use mathlib.Core.Path.{◌≡◌, refl}
use mathlib.Core.List.{List, [], ◌∷◌}
use mathlib.Core.Option.{some}
use Prim.Native.Nat.{ℕ, zero, suc}
use lib.ListN.{length, get_or}
use Rattle.theory.specs.Expressions.{Expr, deadlock, act, sum, product, star}
use Rattle.theory.specs.Nodes.{Node, op_sum, op_product, op_star, dead, leaf, bin}
use Rattle.theory.specs.LabelledCharts.{LabelledChart}
use Rattle.theory.specs.PostOrders.{size, numbered_from, numbered}
use Rattle.theory.specs.TextTests.{item, sum_of, star_of, written, fitting}

abbrev drawn : ℕ → List ℕ → List ℕ → List ℕ → List ℕ → LabelledChart
drawn start from action to label = record {
  chart = record {
    start = start;
    count = length from;
    from = λ i. get_or from i 0;
    action = λ i. get_or action i 0;
    to = λ i. get_or to i 0;
  };
  label = λ i. get_or label i 0;
}

-- the nodes of a table from k on
abbrev nodes_from : (ℕ → Node) → ℕ → ℕ → List Node
nodes_from nd k zero = []
nodes_from nd k (suc n) = nd k ∷ nodes_from nd (suc k) n

abbrev nodes_of : Expr → List Node
nodes_of e = nodes_from (numbered e) 0 (size e)

-- (1,1,1) (1,2,0), labels 1 0
abbrev G : LabelledChart
G = drawn 1 (1 ∷ 1 ∷ []) (1 ∷ 2 ∷ []) (1 ∷ 0 ∷ []) (1 ∷ 0 ∷ [])

G_text : fitting G 127 1 0 ≡ some (star (act 1) (act 2))
unfolding fitting written star_of sum_of item
G_text = refl

G_table : nodes_of (star (act 1) (act 2)) ≡ leaf 1 ∷ leaf 2 ∷ bin op_star 0 1 ∷ []
unfolding numbered_from
G_table = refl

-- (1,1,2) (1,3,0) (2,1,2) (2,2,1), labels 2 0 1 0
abbrev nested : LabelledChart
nested = drawn 1 (1 ∷ 1 ∷ 2 ∷ 2 ∷ []) (1 ∷ 3 ∷ 1 ∷ 2 ∷ []) (2 ∷ 0 ∷ 2 ∷ 1 ∷ []) (2 ∷ 0 ∷ 1 ∷ 0 ∷ [])

nested_text : fitting nested 127 1 0 ≡ some (star (product (act 1) (star (act 1) (act 2))) (act 3))
unfolding fitting written star_of sum_of item
nested_text = refl

nested_table : nodes_of (star (product (act 1) (star (act 1) (act 2))) (act 3))
    ≡ leaf 1 ∷ leaf 1 ∷ leaf 2 ∷ bin op_star 1 2 ∷ bin op_product 0 3 ∷ leaf 3 ∷ bin op_star 4 5 ∷ []
unfolding numbered_from
nested_table = refl

-- (1,1,1) (1,2,1) (1,3,1), labels 1 1 1
abbrev sums : LabelledChart
sums = drawn 1 (1 ∷ 1 ∷ 1 ∷ []) (1 ∷ 2 ∷ 3 ∷ []) (1 ∷ 1 ∷ 1 ∷ []) (1 ∷ 1 ∷ 1 ∷ [])

sums_text : fitting sums 127 1 0 ≡ some (star (sum (sum (act 1) (act 2)) (act 3)) deadlock)
unfolding fitting written star_of sum_of item
sums_text = refl

sums_table : nodes_of (star (sum (sum (act 1) (act 2)) (act 3)) deadlock)
    ≡ leaf 1 ∷ leaf 2 ∷ bin op_sum 0 1 ∷ leaf 3 ∷ bin op_sum 2 3 ∷ dead ∷ bin op_star 4 5 ∷ []
unfolding numbered_from
sums_table = refl
