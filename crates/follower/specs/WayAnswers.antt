-- What document 02 says of each answer of the shortest way (C-11, C-15), and of the lent bytes after it; by the follower's
-- own events.
use Rattle.std.specs.Prelude.{ℕ, ◌<◌, ◌≤◌, ◌≡◌, Bool, length, Result, Ok, Err}
use mathlib.Core.List.{List, map, Memᴰ}
use Rattle.theory.specs.Events.{event}
use Rattle.theory.specs.Runs.{run, run_leaves}
use Rattle.theory.specs.Ways.{Shortest}
use Rattle.report.specs.declared.Refusal.{Refusal}
use Rattle.report.specs.declared.Refusal.TheVariants as refusal
use Rattle.report.specs.declared.Refusal.TheVariants.{NoWay}
use Rattle.report.specs.declared.Response.{Response}
use Rattle.report.specs.declared.Response.TheVariants.{Taken}
use Rattle.bits.specs.Bits.{bytes_with}
use Rattle.chart.specs.Bodies.{WellFormed}
use Rattle.chart.specs.Refusals.{ChartRefused}
use Rattle.follower.specs.States.{state_size, state_in, InState, Unspoilt}
use Rattle.follower.specs.FollowerAnswers.{StateFits}
use Rattle.follower.specs.Calls.{lent_on}

-- EVENTS from a state, each on the bytes that the one before left: the answers, and the bytes after them
abbrev pub event_answers : (b s xs : List ℕ) → List (Result Response Refusal)
event_answers b s xs = run (lent_on b) (map event xs) s

abbrev pub after_events : (b s xs : List ℕ) → List ℕ
after_events b s xs = run_leaves (lent_on b) (map event xs) s

-- after these events the end is in the set, and the state is not spoilt
abbrev pub EndsAfter : (b s xs : List ℕ) → Type 0
EndsAfter b s xs = Unspoilt (state_in (after_events b s xs)) × InState (state_in (after_events b s xs)) 0

-- THE SHORTEST WAY from a state: after it the end is in the set, the state not spoilt, no shorter list does it, and of the lists
-- of its length that do none is lower at the first place where they differ
abbrev pub ShortestWay : (b s xs : List ℕ) → Type 0
ShortestWay b s = Shortest (EndsAfter b s)

-- each answer is "taken"
abbrev pub OnlyTaken : List (Result Response Refusal) → Type 0
OnlyTaken ys = (y : Result Response Refusal) → Memᴰ y ys → (end : Bool) × (offered : ℕ) × (y ≡ Ok (Taken end offered))

-- no list of events reaches the end
abbrev pub NoEnd : (b s : List ℕ) → Type 0
NoEnd b s = (xs : List ℕ) → ¬ EndsAfter b s xs

-- 20, 21 and 53 pass
pub record StatePasses (b s : List ℕ) : Type 0 where
  pub chart : WellFormed b
  pub long : length s ≡ state_size
  pub fits : StateFits b (state_in s)

-- EACH ANSWER, with the lent bytes after it; a refusal leaves them as they were
pub data WayAnswer (b s out : List ℕ) : Result ℕ Refusal → List ℕ → Type 0 where
  -- 20, 21
  other_chart : {p : Refusal} → ChartRefused b p → WayAnswer b s out (Err p) out
  -- 53
  no_state_lem : WellFormed b → ¬ StatePasses b s → WayAnswer b s out (Err refusal.FollowerSet) out
  -- 55
  no_way : StatePasses b s → NoEnd b s → WayAnswer b s out (Err NoWay) out
  -- 54, with the bytes needed
  too_short : {xs : List ℕ} → StatePasses b s → ShortestWay b s xs → length out < length xs
      → WayAnswer b s out (Err (refusal.OutputLength (length xs))) out
  -- the list is written to the beginning, and the bytes past it are kept
  written : {xs : List ℕ} → StatePasses b s → ShortestWay b s xs → length xs ≤ length out
      → WayAnswer b s out (Ok (length xs)) (bytes_with xs out)
