-- The chart of an expression given as a table of nodes: vertex k + 1 stands for node k, the start is the last node's.
use Rattle.std.specs.Prelude.{ℕ, zero, suc, List, [], ◌∷◌, ◌++◌, map}
use Rattle.theory.specs.Ascending.{sort}
use Rattle.theory.specs.Transitions.{Transition, precedes}
use Rattle.theory.specs.Expressions.{Target}
use Rattle.theory.specs.Nodes.{Node, bad, dead, leaf, bin, first, after, meaning}

-- the vertex that is reached after a leaf: that of the first remainder, or the end
abbrev pub vertex_of : List ℕ → ℕ
vertex_of [] = 0
vertex_of (r ∷ rs) = suc r

abbrev pub act_of : Node → ℕ
act_of bad = 0
act_of dead = 0
act_of (leaf a) = a
act_of (bin o l r) = 0

-- what a leaf does: its action, and where it leads
abbrev pub edge : (ℕ → Node) → ℕ → ℕ → ℕ × ℕ
edge nd n j = (act_of (nd j), vertex_of (after nd n j))

-- what leaves the vertex of node k
unfoldable pub edges : (ℕ → Node) → ℕ → ℕ → List (ℕ × ℕ)
edges nd n k = map (edge nd n) (first nd k)

-- what leaves a vertex, with the vertex that it leads to read as what it stands for
abbrev pub meant : (ℕ → Node) → ℕ → ℕ × ℕ → ℕ × Target
meant nd n e = (e.0, meaning nd n e.1)

abbrev pub leaving : ℕ → ℕ × ℕ → Transition
leaving k e = (suc k, e.0, e.1)

-- what leaves the vertices of the first m nodes, as it comes
unfoldable pub collect : (ℕ → Node) → ℕ → ℕ → List Transition
collect nd n zero = []
collect nd n (suc k) = map (leaving k) (edges nd n k) ++ collect nd n k

-- in the order of a chart body, equal ones once
unfoldable pub transitions : (ℕ → Node) → ℕ → List Transition
transitions nd n = sort precedes (collect nd n n)
