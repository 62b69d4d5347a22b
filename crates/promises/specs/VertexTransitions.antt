-- The transitions that leave a vertex: `leaving_of`, of which the contract of `leaving` says that it is handed back.
use Rattle.std.specs.Prelude.{◌≡◌, ◌≢◌, List, [], ℕ, ◌<◌, ◌≤◌, take, drop}
use Rattle.chart.specs.Bodies.{vertices_of, count_of, from_of, WellFormed}
use Rattle.chart.specs.Leaving.{leaving_of}
use Rattle.chart.specs.Parts.{PartOf}

pub record HandedBack (b : List ℕ) (v : ℕ) : Type 0 where
  -- a part of the caller's chart bytes, whatever they are
  pub part : (a n : ℕ) × (leaving_of b v ≡ take n (drop a b))
  -- of a body that passes 20 and 21, the transitions of v as they stand there, and no other list
  pub transitions : WellFormed b → PartOf b v (leaving_of b v)
  pub only : WellFormed b → (part : List ℕ) → PartOf b v part → part ≡ leaving_of b v
  -- empty for a vertex with none, for a number of V or above, and for a body that 20 or 21 refuses
  pub with_none : WellFormed b → ((i : ℕ) → i < count_of b → from_of b i ≢ v) → leaving_of b v ≡ []
  pub no_vertex : WellFormed b → vertices_of b ≤ v → leaving_of b v ≡ []
  pub refused : ¬ WellFormed b → leaving_of b v ≡ []
