-- The shortest way (document 02, C-11 and C-15) from a follower's state to the end, as tests that run: the answer, and the lent
-- bytes after it.
use Rattle.std.specs.Prelude.{ℕ, cond, List, eqb, ltb, length, Result, Ok, Err}
use Rattle.theory.specs.WayTests.{steps_to_end, lowest_list}
use Rattle.report.specs.Stages.{after}
use Rattle.report.specs.declared.Refusal.{Refusal}
use Rattle.report.specs.declared.Refusal.TheVariants as refusal
use Rattle.report.specs.declared.Refusal.TheVariants.{NoWay}
use Rattle.bits.specs.Bits.{bytes_with}
use Rattle.chart.specs.Bodies.{vertices_of}
use Rattle.chart.specs.Checks.{check_of}
use Rattle.chart.specs.Systems.{machine_of}
use Rattle.follower.specs.States.{state_size, state_in, members_of, kept_in}
use Rattle.follower.specs.Calls.{state_stage}

-- how many events it takes from a state, or V where no list does it, as from every spoilt state; and the list
unfoldable pub events_to_end : List ℕ → List ℕ → ℕ
events_to_end b s = cond (kept_in (state_in s)) (vertices_of b) (steps_to_end (machine_of b) (vertices_of b) (members_of (state_in s)))

unfoldable pub shortest_list : List ℕ → List ℕ → List ℕ
shortest_list b s = lowest_list (machine_of b) (events_to_end b s) (members_of (state_in s))

-- 53 of bytes: so many as a state has, and the state that they hold is ready
abbrev pub bytes_stage : List ℕ → List ℕ → Result Unit Refusal
bytes_stage b s = cond (eqb (length s) state_size) (state_stage b (state_in s)) (Err refusal.FollowerSet)

-- the answer for so many lent bytes: 20, 21, 53, 55, 54
unfoldable pub way_of : List ℕ → List ℕ → ℕ → Result ℕ Refusal
way_of b s lent =
    after (check_of b)
    (after (bytes_stage b s)
    (cond (ltb (events_to_end b s) (vertices_of b))
    (cond (ltb lent (events_to_end b s)) (Err (refusal.OutputLength (events_to_end b s))) (Ok (events_to_end b s)))
    (Err NoWay)))

-- the lent bytes after the call: as they were, or the list and what stood past it
abbrev pub bytes_for : Result ℕ Refusal → List ℕ → List ℕ → List ℕ
bytes_for (Ok n) xs out = bytes_with xs out
bytes_for (Err p) xs out = out

unfoldable pub way_left : List ℕ → List ℕ → List ℕ → List ℕ
way_left b s out = bytes_for (way_of b s (length out)) (shortest_list b s) out
