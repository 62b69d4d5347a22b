-- What the parts of a removal of several loops together answer of a list of loops, of its bytes and of what stands.
use Rattle.std.specs.Prelude.{ℕ, ◌+◌, ◌*◌, ◌<◌, ◌≡◌, ◌≢◌, List, length, get_or, Result, Ok, Err}
use Rattle.theory.specs.Charts.{Steps}
use Rattle.theory.specs.Orders.{Pair}
use Rattle.theory.specs.Removals.{Answer, done}
use Rattle.theory.specs.MultiSteps.{loop_at, InBodyOf, GroupAnswer, RemovesAt, EachGoes, RemovesTogether}
use Rattle.report.specs.declared.Refusal.{Refusal}
use Rattle.bits.specs.Sets.{Members}
use Rattle.chart.specs.Steps.{StandingOf}
use Rattle.bits.specs.declared.Set.{Set}
use Rattle.elimination.specs.Removals.{removed_as}
use Rattle.elimination.specs.Together.{loops_of, together_as}

-- the start and the level at place i of a list of bytes
abbrev pub start_at : List ℕ → ℕ → ℕ
start_at loops i = get_or loops (2 * i) 0

abbrev pub level_at : List ℕ → ℕ → ℕ
level_at loops i = get_or loops (2 * i + 1) 0

-- the loop at place i stands at an earlier place too
pub record StandsBefore (loops : List ℕ) (i : ℕ) : Type 0 where
  pub at : ℕ
  pub earlier : at < i
  pub start : start_at loops at ≡ start_at loops i
  pub level : level_at loops at ≡ level_at loops i

-- w is in the body of one of the first n loops of the list
pub record InSomeBody (R : Steps) (cs : List Pair) (n w : ℕ) : Type 0 where
  pub at : ℕ
  pub within : at < n
  pub inside : InBodyOf R (loop_at cs at) w

-- x is the answer of the first loop of the list that is refused by itself
pub record FirstRefused (R : Steps) (cs : List Pair) (x : Result Unit Refusal) : Type 0 where
  pub at : ℕ
  pub within : at < length cs
  pub before : (j : ℕ) → j < at → RemovesAt R cs j done
  pub answer : Answer
  pub said : x ≡ removed_as answer
  pub by_rule : RemovesAt R cs at answer
  pub refusal : answer ≢ done

-- what is found of the loops one by one: the first refusal, or that each goes, and what is in their bodies
pub data RulingOf (R : Steps) (cs : List Pair) : Result Set Refusal → Type 0 where
  refused : {p : Refusal} → FirstRefused R cs (Err p) → RulingOf R cs (Err p)
  gone : {bodies : Set} → EachGoes R cs → Members (InSomeBody R cs (length cs)) bodies → RulingOf R cs (Ok bodies)

-- the answer is the rule's
abbrev pub RuledTogether : (b labels loops standing : List ℕ) → Result Unit Refusal → Type 0
RuledTogether b labels loops standing r =
    (g : GroupAnswer) × (r ≡ together_as g) × RemovesTogether (StandingOf b labels standing) (loops_of loops) g
