-- The follower's rule for restarts and events: document 01's, with the mark of document 02's C-15 kept beside the set.
use Rattle.std.specs.Prelude.{Bool, true, false, cond, ℕ, eqb, length}
use Rattle.theory.specs.Tests.{some_in}
use Rattle.theory.specs.Followers.{View, Effect, keep, fresh, go, Response, FollowerRule}

pub data Call : Type 0 where
  restart : Call
  event : ℕ → Call

pub data Word : Type 0 where
  taken not_possible : Word

-- the word, whether the end is in the set, and how many different actions the set's members offer; "spoilt", whose two other
-- values are always no and 0; or the refusal 53
pub data Answer : Type 0 where
  answer : Word → Bool → ℕ → Answer
  spoilt : Answer
  refused_53 : Answer

abbrev pub told : Word → View → Answer
told w v = answer w v.end (length v.offered)

-- what is kept is whether the state is spoilt; a reply says what it is after the call
abbrev pub reply : Effect → (View → Answer) → Bool → Response Answer Bool
reply e x mark = record { effect = e; answer = x; kept = λ w. mark }

-- an event where nothing is refused: on a spoilt state, with a target from some member, or without one
abbrev pub step_reply : (mark possible : Bool) → ℕ → Response Answer Bool
step_reply mark possible a =
    cond mark (reply keep (λ w. spoilt) true)
    (cond possible (reply (go a) (told taken) false) (reply keep (told not_possible) true))

abbrev pub reply_to : Bool → Call → View → Response Answer Bool
reply_to mark restart v = reply fresh (told taken) false
reply_to mark (event a) v =
    cond v.some (step_reply mark (some_in (eqb a) v.offered) a) (reply keep (λ w. refused_53) mark)

abbrev pub event_rule : FollowerRule
event_rule = record { Kept = Bool; Call = Call; Answer = Answer; response = reply_to }
