-- Demand 2. "An expression's chart has exactly the steps that the published rules derive, none more, none fewer. A
-- labelling passes exactly when it is a layered loop witness of a connected chart, a relation exactly when it is a
-- bisimulation."
use Rattle.std.specs.Prelude.{◌≡◌, ◌↔◌, ℕ, suc, ◌*◌, ◌<◌, length, drop, Ok}
use mathlib.Core.List.{List, ◌++◌, Memᴰ}
use Rattle.theory.specs.Ascending.{Ascending}
use Rattle.theory.specs.Expressions.{Expr, Target, Step}
use Rattle.theory.specs.Nodes.{expr, residual, meaning}
use Rattle.theory.specs.Climbs.{LeadsBy}
use Rattle.theory.specs.Systems.{Bisimulation}
use Rattle.theory.specs.Transitions.{precedes}
use Rattle.theory.specs.Witnesses.{Witness, Connected}
use Rattle.chart.specs.Bodies.{vertices_of, start_of, count_of}
use Rattle.chart.specs.Steps.{transitions_of, StepsOf}
use Rattle.chart.specs.Systems.{system_of}
use Rattle.expression.specs.Table as nodes
use Rattle.expression.specs.Body.{written_of, buffer_of}
use Rattle.witness.specs.Labellings.{labelled_of}
use Rattle.bisimulation.specs.Relations.{relation_of}
use Rattle.bisimulation.specs.Answers.{Related}

-- THE EXPRESSION'S CHART. What the vertex of node k stands for, and what any vertex does
abbrev pub residual_of : List ℕ → ℕ → Expr
residual_of s k = residual (nodes.node s) (nodes.count s) k

abbrev pub meaning_of : List ℕ → ℕ → Target
meaning_of s v = meaning (nodes.node s) (nodes.count s) v

-- the body has this transition: from, action, to
abbrev pub HasTransition : (body : List ℕ) (u a t : ℕ) → Type 0
HasTransition body u a t = Memᴰ (u, a, t) (transitions_of body)

-- some transition of the body with this action leads from u to a vertex that stands for ξ
abbrev pub LeadsTo : (s body : List ℕ) (u a : ℕ) → Target → Type 0
LeadsTo s body u a ξ = (t : ℕ) × HasTransition body u a t × (meaning_of s t ≡ ξ)

-- from the vertex of node k exactly the steps of its residual, each to the vertex where the climb from its leaf ends, so
-- that two occurrences stay two; from no other vertex any; the vertices, and all targets, are the end and one for each
-- node; no transition is listed twice; and the start stands for the whole expression
pub record ExactSteps (s body : List ℕ) : Type 0 where
  pub derived : (k : ℕ) → k < nodes.count s
      → (a : ℕ) (ξ : Target) → Step (residual_of s k) a ξ ↔ LeadsTo s body (suc k) a ξ
  pub climbs : (k : ℕ) → k < nodes.count s
      → (a t : ℕ) → LeadsBy (nodes.node s) (nodes.count s) k a t ↔ HasTransition body (suc k) a t
  pub vertices : (u a t : ℕ) → HasTransition body u a t → (k : ℕ) × (k < nodes.count s) × (u ≡ suc k)
  pub targets : (u a t : ℕ) → HasTransition body u a t → t < vertices_of body
  pub size : vertices_of body ≡ suc (nodes.count s)
  pub ascend : Ascending precedes (transitions_of body)
  pub start : (k : ℕ) → nodes.count s ≡ suc k → (start_of body ≡ suc k) × (residual_of s k ≡ expr (nodes.node s) k)

-- what is written where a length is the answer: the chart, and after it what stood there
abbrev pub WritesTheChart : List ℕ → List ℕ → Type 0
WritesTheChart s lent = (n : ℕ) → written_of s (length lent) ≡ Ok n
    → (body : List ℕ) × (buffer_of s lent ≡ body ++ drop n lent) × (length body ≡ n) × ExactSteps s body

-- LABELLINGS, beside a chart body that passes 20 and 21
abbrev pub LabellingPasses : List ℕ → List ℕ → Type 0
LabellingPasses b labels = ((n : ℕ) × (labelled_of b labels ≡ Ok n))
    ↔ ((length labels ≡ count_of b)
    × Connected (vertices_of b) (StepsOf b labels) (start_of b)
    × Witness (StepsOf b labels) (start_of b))

-- RELATIONS, between two chart bodies
abbrev pub RelationPasses : List ℕ → List ℕ → List ℕ → Type 0
RelationPasses e b relation = (relation_of e b relation ≡ Ok tt)
    ↔ ((length relation ≡ 16 * vertices_of e)
    × ((u v : ℕ) → Related relation u v → (u < vertices_of e) × (v < vertices_of b))
    × Bisimulation (system_of e) (system_of b) (Related relation))
