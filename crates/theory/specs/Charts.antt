-- Charts with a loop labelling (001, sections 2 and 3), as relations. Actions play no part in a labelling.
use Rattle.std.specs.Prelude.{◌↔◌, ℕ, ◌<◌}
use Rattle.theory.specs.Paths.{Edges}

-- S u l w: a transition with the label l leads from u to w. Label 0 is a branch, 1 and up a loop entry of that level
abbrev pub Steps : Type 1
Steps = ℕ → ℕ → ℕ → Type 0

-- the vertices are the numbers below size; vertex 0 is the end, which no transition leaves
pub record Formed (size : ℕ) (S : Steps) : Type 0 where
  pub from_vertex : (u l w : ℕ) → S u l w → (0 < u) × (u < size)
  pub to_vertex : (u l w : ℕ) → S u l w → w < size

-- labels are below top, and it is decided which transitions there are
pub record Listed (top : ℕ) (S : Steps) : Type 0 where
  pub label_below : (u l w : ℕ) → S u l w → l < top
  pub decide : (u l w : ℕ) → Dec (S u l w)

-- the same transitions
abbrev pub SameSteps : Steps → Steps → Type 0
SameSteps R S = (u l w : ℕ) → R u l w ↔ S u l w

-- transitions whatever their label
abbrev pub Any : Steps → Edges
Any S u w = (l : ℕ) × S u l w

-- branch transitions
abbrev pub Branch : Steps → Edges
Branch S u w = S u 0 w

-- a loop: a vertex and a level with at least one such entry leaving it (001's set of pairs of a vertex and a loop name)
abbrev pub Loop : Steps → ℕ → ℕ → Type 0
Loop S v l = (0 < l) × (w : ℕ) × S v l w
