-- A chart whose transitions have an index, with a labelling: label 0 is a branch, 1 and up an entry of that level.
use Rattle.std.specs.Prelude.{◌≡◌, ◌≢◌, ℕ, ◌<◌}
use Rattle.theory.specs.Charts.{Steps}
use Rattle.theory.specs.Relations.{Indexed}

pub record LabelledChart : Type 0 where
  pub chart : Indexed
  pub label : ℕ → ℕ

-- some transition with the label l leads from u to w
abbrev pub labelled_steps : LabelledChart → Steps
labelled_steps c u l w =
    (i : ℕ) × (i < c.chart.count) × (c.chart.from i ≡ u) × (c.label i ≡ l) × (c.chart.to i ≡ w)

-- what leaves a vertex: its entries, its branches
pub data Half : Type 0 where
  entries branches : Half

-- transition i is one of w's entries, of w's branches
abbrev pub InHalf : LabelledChart → Half → ℕ → ℕ → Type 0
InHalf c entries w i = (c.chart.from i ≡ w) × (c.label i ≢ 0)
InHalf c branches w i = (c.chart.from i ≡ w) × (c.label i ≡ 0)
