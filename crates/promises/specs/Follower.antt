-- The follower, by the numbers. What document 01 says of each answer to an event or a restart, and of the state after it, is
-- `CallAnswer` of a state by value or lent itself, and `LentAnswer` of lent bytes.
use Rattle.std.specs.Prelude.{List, ℕ}
use Rattle.theory.specs.Events.{Call}
use Rattle.report.specs.Numbers.{followed_numbers}
use Rattle.follower.specs.declared.Follower.{Follower}
use Rattle.follower.specs.Calls.{called_on, lent_on}
use Rattle.follower.specs.FollowerAnswers.{CallAnswer, LentAnswer}
use Rattle.promises.specs.Numbered.{ByNumbers}

-- a call on a state
abbrev pub CallByNumbers : List ℕ → Follower → Call → Type 0
CallByNumbers b f c = ByNumbers followed_numbers (CallAnswer b f c) (called_on b f c).answer (called_on b f c).follower

-- a call on lent bytes, whatever their number
abbrev pub LentByNumbers : (b s : List ℕ) → Call → Type 0
LentByNumbers b s c = ByNumbers followed_numbers (LentAnswer b s c) (lent_on b s c).0 (lent_on b s c).1
