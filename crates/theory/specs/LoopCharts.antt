-- The chart of a loop, and loop charts (001, Definition 3.1).
use Rattle.std.specs.Prelude.{◌≢◌, ℕ}
use Rattle.theory.specs.Paths.{Edges, Star, Plus, Endless, Returns, Avoid}
use Rattle.theory.specs.Charts.{Steps, Any, Branch}

-- The chart with start v in which v has just its entries and every other vertex its other transitions: a path that
-- returns to v may go on by the entries, and by nothing else.
pub data Round (v : ℕ) (Entry : ℕ → Type 0) (Other : Edges) : ℕ → ℕ → Type 0 where
  entry : {w : ℕ} → Entry w → Round v Entry Other v w
  other : {u w : ℕ} → u ≢ v → Other u w → Round v Entry Other u w

-- the chart of the loop (v, l) of a labelling: its entries, then branches
abbrev pub InLoop : Steps → ℕ → ℕ → Edges
InLoop S v l = Round v (S v l) (Branch S)

-- w is in the body of the loop (v, l)
abbrev pub InBody : Steps → ℕ → ℕ → ℕ → Type 0
InBody S v l w = Plus (InLoop S v l) v w

-- the chart of the loop (v, l) where the transitions R stand: its standing entries, then any standing transitions
abbrev pub Around : Steps → ℕ → ℕ → Edges
Around R v l = Round v (R v l) (Any R)

-- Definition 3.1, of the chart whose start is v and whose transitions are E
pub record LoopChart (E : Edges) (v : ℕ) : Type 0 where
  pub L1 : Endless E v
  pub L2 : Returns E v
  pub L3 : ¬ Star E v 0

-- what the entries, then the other transitions, reach, stopping at v (document 01's body of a loop)
abbrev pub Reached : ℕ → (ℕ → Type 0) → Edges → ℕ → Type 0
Reached v Entry Other w = (x : ℕ) × Entry x × Star (Avoid v Other) x w

-- a cycle that the entries reach and that does not go through v
abbrev pub Stray : ℕ → (ℕ → Type 0) → Edges → Type 0
Stray v Entry Other = (w : ℕ) × (w ≢ v) × Reached v Entry Other w × Plus (Avoid v Other) w w
