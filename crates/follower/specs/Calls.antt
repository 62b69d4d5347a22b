-- The follower over a chart body, as tests that run: what a call on a state answers, and the state after it.
use Rattle.std.specs.Prelude.{ℕ, Bool, cond, ◌&&◌, not, List, eqb, leb, length, Result, Ok, Err}
use Rattle.theory.specs.Tests.{some_in}
use Rattle.theory.specs.Followers.{Effect, keep, fresh, empty, go}
use Rattle.theory.specs.Events.{Call, restart, event, Answer, answer, spoilt, refused_53, taken, not_possible, event_rule}
use Rattle.theory.specs.Runs.{nonempty, view_of, left_by, call_on}
use Rattle.report.specs.declared.Refusal.{Refusal}
use Rattle.report.specs.declared.Refusal.TheVariants as refusal
use Rattle.report.specs.declared.Response.{Response}
use Rattle.report.specs.declared.Response.TheVariants.{NotPossible, Spoilt, Taken}
use Rattle.chart.specs.Bodies.{vertices_of}
use Rattle.chart.specs.Checks.{check_of}
use Rattle.chart.specs.Systems.{machine_of}
use Rattle.follower.specs.declared.Follower.{Follower}
use Rattle.follower.specs.declared.Moved.{Moved}
use Rattle.follower.specs.declared.Call as declared
use Rattle.follower.specs.declared.Call.TheVariants.{Restart, Event}
use Rattle.follower.specs.States.{state_size, bytes_in, state_in, members_of, set_of, kept_in, state_with}

-- IS THE STATE READY: 53, some vertex is in the set, and none of V or above, and the mark is 0 or 1
unfoldable pub state_test : List ℕ → Follower → Bool
state_test b f = (nonempty (members_of f) && not (some_in (leb (vertices_of b)) (members_of f))) && leb f.mark 1

abbrev pub state_stage : List ℕ → Follower → Result Unit Refusal
state_stage b f = cond (state_test b f) (Ok tt) (Err refusal.FollowerSet)

-- which is asked of an event only
abbrev pub ready_of : List ℕ → Follower → Call → Result Unit Refusal
ready_of b f restart = Ok tt
ready_of b f (event a) = state_stage b f

-- what a call of the code asks
abbrev pub asked : declared.Call → Call
asked Restart = restart
asked (Event a) = event a

-- THE RULE over a body that passes and a state that is ready. The documents' answer for each of the rule's
abbrev pub followed_as : Answer → Result Response Refusal
followed_as (answer taken end offered) = Ok (Taken end offered)
followed_as (answer not_possible end offered) = Ok (NotPossible end offered)
followed_as spoilt = Ok Spoilt
followed_as refused_53 = Err refusal.FollowerSet

unfoldable pub answer_of : List ℕ → Follower → Call → Result Response Refusal
answer_of b f c = followed_as (call_on event_rule (machine_of b) (kept_in f, members_of f) c).0

-- the set's bytes after an effect: where the set is kept they are as they came
abbrev pub set_by : List ℕ → Follower → Effect → List ℕ
set_by b f keep = f.set
set_by b f fresh = set_of (left_by (machine_of b) fresh (members_of f))
set_by b f empty = set_of (left_by (machine_of b) empty (members_of f))
set_by b f (go a) = set_of (left_by (machine_of b) (go a) (members_of f))

unfoldable pub state_after : List ℕ → Follower → Call → Follower
state_after b f c =
    state_with (set_by b f (event_rule.response (kept_in f) c (view_of (machine_of b) (members_of f))).effect)
    (call_on event_rule (machine_of b) (kept_in f, members_of f) c).1.0

abbrev pub moved : Result Response Refusal → Follower → Moved
moved a f = record { answer = a; follower = f }

abbrev pub ruled_of : List ℕ → Follower → Call → Moved
ruled_of b f c = moved (answer_of b f c) (state_after b f c)

-- ONE CALL on a state: 20, 21, 53, then the rule. Where a stage refuses, the state is handed back as it came
abbrev pub on_stage : Result Unit Refusal → Follower → Moved → Moved
on_stage (Ok tt) f m = m
on_stage (Err p) f m = moved (Err p) f

unfoldable pub called_on : List ℕ → Follower → Call → Moved
called_on b f c = on_stage (check_of b) f (on_stage (ready_of b f c) f (ruled_of b f c))

-- ONE CALL ON LENT BYTES, the answer and the bytes after it: another number of them than the state's is refused 53 after 20
-- and 21, for a restart too
abbrev pub in_bytes : Moved → Result Response Refusal × List ℕ
in_bytes m = (m.answer, bytes_in m.follower)

abbrev pub by_other_length : Result Unit Refusal → Result Response Refusal
by_other_length (Ok tt) = Err refusal.FollowerSet
by_other_length (Err p) = Err p

unfoldable pub lent_on : List ℕ → List ℕ → Call → Result Response Refusal × List ℕ
lent_on b s c = cond (eqb (length s) state_size) (in_bytes (called_on b (state_in s) c)) (by_other_length (check_of b), s)
