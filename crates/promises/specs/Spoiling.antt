-- A wrong button spoils the run (document 02, C-15): an event on lent bytes by the numbers, and when "spoilt" is answered. What
-- spoils together is `OneList` of Demand3, and that a spoilt state reaches nothing `OfShortestWays` of ShortestWay.
use Rattle.std.specs.Prelude.{◌≡◌, ◌↔◌, Bool, List, [], ◌∷◌, ◌++◌, ℕ, get_or, take}
use Rattle.theory.specs.Events.{Call, event}
use Rattle.theory.specs.Spoiling.{SpoiltExactly}
use Rattle.report.specs.declared.Numbers.{Numbers}
use Rattle.report.specs.Numbers.{four, flag, followed_numbers}
use Rattle.follower.specs.declared.Follower.{Follower}
use Rattle.follower.specs.States.{state_in, Formed, InState}
use Rattle.follower.specs.Calls.{lent_on}
use Rattle.follower.specs.FollowerAnswers.{Target, Possible, Shown}
use Rattle.promises.specs.Numbered.{Gives}
use Rattle.promises.specs.Demand3.{FollowerGives}

abbrev pub LentGives : (b s : List ℕ) → Call → Numbers → List ℕ → Type 0
LentGives b s c = Gives followed_numbers (lent_on b s c).0 (lent_on b s c).1

-- AN EVENT on lent bytes whose state passes 20, 21 and 53: the answer, and every byte after it. The sixteen bytes of the set come
-- first, then the mark
pub record OfAnEvent (b s : List ℕ) (a : ℕ) : Type 0 where
  -- "every event answers spoilt, end no, offered 0", and no byte changes
  pub on_spoilt : get_or s 16 0 ≡ 1 → LentGives b s (event a) (four 0 2 0 0) s
  -- "after not possible the state is spoilt": the answer tells what the set shows, and only the mark changes
  pub spoils : get_or s 16 0 ≡ 0 → ¬ Possible b (state_in s) a → (end : Bool) (n : ℕ) → Shown b (state_in s) end n
      → LentGives b s (event a) (four 0 0 (flag end) n) (take 16 s ++ (1 ∷ []))
  -- an event that is taken: g has all targets and is not spoilt, and what it shows is told
  pub goes : get_or s 16 0 ≡ 0 → Possible b (state_in s) a → (g : Follower) → Formed g → g.mark ≡ 0
      → ((w : ℕ) → InState g w ↔ Target b (state_in s) a w) → (end : Bool) (n : ℕ) → Shown b g end n
      → LentGives b s (event a) (four 0 1 (flag end) n) (g.set ++ (0 ∷ []))

-- "SPOILT" IS ANSWERED exactly at the events after one that is not possible since the last restart: of every list of events and
-- restarts from a fresh start, by value, in place and lent
abbrev pub SaysSpoilt : Numbers → Type 0
SaysSpoilt k = k ≡ four 0 2 0 0

abbrev pub SaysNotPossible : Numbers → Type 0
SaysNotPossible k = (q r : ℕ) × (k ≡ four 0 0 q r)

pub record SpoiltUntilRestart (b : List ℕ) (cs : List Call) : Type 0 where
  pub answers : List Numbers
  pub spoilt : Bool
  pub gives : FollowerGives b cs answers spoilt
  pub exactly : SpoiltExactly SaysSpoilt SaysNotPossible cs answers
