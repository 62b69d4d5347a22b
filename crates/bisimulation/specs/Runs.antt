-- Runs: neighbouring chart vertices that the same steps lead to, and the transitions into them: the contracts of the
-- code.
use Rattle.std.specs.Prelude.{◌≡◌, List, ℕ, ◌≤◌, ◌<◌, length, get_or}
use Rattle.chart.specs.Bodies.{from_of, action_of, to_of}

-- the words from a up to b are all the same
pub record SameWords (into : List ℕ) (a b : ℕ) : Type 0 where
  pub same : (x y : ℕ) → a ≤ x → x < b → a ≤ y → y < b → get_or into x 0 ≡ get_or into y 0

-- an entry for each vertex, not above 128
pub record RunEnds (until : List ℕ) : Type 0 where
  pub long : length until ≡ 128
  pub low : (w : ℕ) → get_or until w 0 ≤ 128

-- a run from each vertex w up to entry w, where that is above w
pub record Runs (into until : List ℕ) : Type 0 where
  pub ends : RunEnds until
  pub each : (w : ℕ) → SameWords into w (get_or until w 0)

-- the transitions from a up to b leave the same vertex
pub record OneSource (body : List ℕ) (a b : ℕ) : Type 0 where
  pub same : (i j : ℕ) → a ≤ i → i < b → a ≤ j → j < b → from_of body i ≡ from_of body j

-- the same steps match the transitions i and j
pub record MatchedAlike (into body : List ℕ) (i j : ℕ) : Type 0 where
  pub actions : action_of body i ≡ action_of body j
  pub words : get_or into (to_of body i) 0 ≡ get_or into (to_of body j) 0
