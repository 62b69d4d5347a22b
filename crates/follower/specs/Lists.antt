-- Lists of calls, as `run` of the theory has them: each way to call the follower is a function from a state and a call
-- to an answer and a state. A list begins at a fresh start.
use Rattle.std.specs.Prelude.{ℕ, ◌≡◌, Bool, false, List, map, Result}
use Rattle.theory.specs.Followers.{Responds, Follows, Answers}
use Rattle.theory.specs.Events.{Call, restart, event, Answer, event_rule}
use Rattle.report.specs.declared.Refusal.{Refusal}
use Rattle.report.specs.declared.Response.{Response}
use Rattle.report.specs.Numbers.{flag}
use Rattle.chart.specs.Systems.{system_of}
use Rattle.follower.specs.declared.Follower.{Follower}
use Rattle.follower.specs.declared.Moved.{Moved}
use Rattle.follower.specs.States.{InState, kept_in, no_state}
use Rattle.follower.specs.Calls.{followed_as, called_on}

abbrev pub answer_and_state : Moved → Result Response Refusal × Follower
answer_and_state m = (m.answer, m.follower)

-- IN PLACE: the state itself is lent
abbrev pub call_in_place : List ℕ → Follower → Call → Result Response Refusal × Follower
call_in_place b f c = answer_and_state (called_on b f c)

-- BY VALUE: a restart takes no state
abbrev pub call_by_value : List ℕ → Follower → Call → Result Response Refusal × Follower
call_by_value b f restart = answer_and_state (called_on b no_state restart)
call_by_value b f (event a) = answer_and_state (called_on b f (event a))

-- THE RULE over the chart of a body: one call on a state, with what is kept beside its set; a list of calls; the answers from
-- a fresh start
abbrev pub RuleResponds : List ℕ → Follower → Call → Answer → Follower → Type 0
RuleResponds b f c x g = Responds event_rule (system_of b) (InState f) (kept_in f) c x (InState g) (kept_in g)

abbrev pub RuleFollows : List ℕ → Follower → List Call → List Answer → Follower → Type 1
RuleFollows b f cs xs g = Follows event_rule (system_of b) (InState f) (kept_in f) cs xs (InState g) (kept_in g)

abbrev pub RuleAnswers : List ℕ → List Call → List Answer → Bool → Type 1
RuleAnswers b cs xs spoilt = Answers event_rule (system_of b) false cs xs spoilt

-- the answers to a list of calls are the rule's over the chart of the body, from a fresh start, and so is the mark of the state
-- that they leave
pub record ByRule (b : List ℕ) (cs : List Call) (ys : List (Result Response Refusal)) (left : Follower) : Type 1 where
  pub answers : List Answer
  pub written : ys ≡ map followed_as answers
  pub spoilt : Bool
  pub marked : left.mark ≡ flag spoilt
  pub rule : RuleAnswers b cs answers spoilt
