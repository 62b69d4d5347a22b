-- The shortest way (document 02, C-11 and C-15), by the numbers; and what holds of the list. What each answer says, with the lent bytes
-- after it, is `WayAnswer`.
use Rattle.std.specs.Prelude.{◌≡◌, ◌⊎◌, List, [], ℕ, ◌<◌, length}
use Rattle.report.specs.declared.Numbers.{Numbers}
use Rattle.report.specs.Numbers.{four, length_numbers}
use Rattle.chart.specs.Bodies.{vertices_of}
use Rattle.follower.specs.States.{state_in, InState, Unspoilt, IsSpoilt}
use Rattle.follower.specs.Ways.{way_of, way_left}
use Rattle.follower.specs.WayAnswers.{event_answers, ShortestWay, OnlyTaken, NoEnd, WayAnswer}
use Rattle.promises.specs.Numbered.{Gives, ByNumbers}

abbrev pub WayGives : (b s out : List ℕ) → Numbers → List ℕ → Type 0
WayGives b s out = Gives length_numbers (way_of b s (length out)) (way_left b s out)

abbrev pub WayByNumbers : (b s out : List ℕ) → Type 0
WayByNumbers b s out = ByNumbers length_numbers (WayAnswer b s out) (way_of b s (length out)) (way_left b s out)

-- OF EVERY STATE THAT PASSES
pub record OfShortestWays (b s : List ℕ) : Type 0 where
  -- there is a list, or no list of events reaches the end
  pub found : ((xs : List ℕ) × ShortestWay b s xs) ⊎ NoEnd b s
  -- it is the only one
  pub only : {xs ys : List ℕ} → ShortestWay b s xs → ShortestWay b s ys → xs ≡ ys
  -- it has at most V − 1 events, and all of them are taken
  pub few : {xs : List ℕ} → ShortestWay b s xs → length xs < vertices_of b
  pub taken : {xs : List ℕ} → ShortestWay b s xs → OnlyTaken (event_answers b s xs)
  -- where the state holds the end and is not spoilt it has none, and needs no byte
  pub at_end_lem : Unspoilt (state_in s) → InState (state_in s) 0 → ShortestWay b s []
  pub needs_none : Unspoilt (state_in s) → InState (state_in s) 0 → (out : List ℕ) → WayGives b s out (four 0 0 0 0) out
  -- a spoilt state reaches nothing, whatever its set holds: 55
  pub spoilt_none : IsSpoilt (state_in s) → NoEnd b s
  pub spoilt_55 : IsSpoilt (state_in s) → (out : List ℕ) → WayGives b s out (four 55 0 0 0) out
