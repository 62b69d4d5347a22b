-- What document 02 says of each answer to taking out several loops together (C-12), over the transitions whose standing
-- byte is 1, with the standing bytes after it. An answer has the checks before it pass.
use Rattle.std.specs.Prelude.{ℕ, ◌%◌, ◌≤◌, ◌<◌, ◌≡◌, List, length, Result, Ok, Err}
use Rattle.theory.specs.Orders.{Distinct, Listing}
use Rattle.theory.specs.Least.{Least}
use Rattle.theory.specs.MultiSteps.{loop_at, LoopSubchart, MultiStep}
use Rattle.theory.specs.MultiSteps as several
use Rattle.report.specs.declared.Refusal.{Refusal}
use Rattle.report.specs.declared.Refusal.TheVariants.{StartInside, LoopList}
use Rattle.chart.specs.Steps.{StandingOf}
use Rattle.chart.specs.Standing.{TakenOutOf}
use Rattle.elimination.specs.RemovalAnswers.{Fits, OpeningAnswer, LoopRefused}
use Rattle.elimination.specs.Together.{loops_of}

-- 56 passes
pub record LoopListFits (loops : List ℕ) : Type 0 where
  pub even : length loops % 2 ≡ 0
  pub short : length loops ≤ 128
  pub once : Distinct (loops_of loops)

module _ (b labels loops standing : List ℕ) where
  -- the loop at place i of the list is a loop sub-chart of what stands when the call begins
  abbrev pub LoopAt : ℕ → Type 0
  LoopAt i = LoopSubchart (StandingOf b labels standing) (loop_at (loops_of loops) i)

  -- EACH ANSWER, with the standing bytes after it; a refusal leaves them as they were
  pub data TogetherAnswer : Result Unit Refusal → (after : List ℕ) → Type 0 where
    -- 20, 21, 30 and 50, as for one loop
    opening : {a : Result Unit Refusal} → OpeningAnswer b labels standing a → TogetherAnswer a standing
    -- 56: a list of odd length, of more than 128 bytes, or with a loop twice
    other_list : Fits b labels standing → ¬ LoopListFits loops → TogetherAnswer (Err LoopList) standing
    -- 51 and 52, as for one loop: of the first in the list that is refused, over what stands when the call begins
    first_refused : {i : ℕ} {a : Result Unit Refusal} → Fits b labels standing → LoopListFits loops → i < length (loops_of loops)
        → ((j : ℕ) → j < i → LoopAt j)
        → LoopRefused (StandingOf b labels standing) (loop_at (loops_of loops) i).0 (loop_at (loops_of loops) i).1 a
        → TogetherAnswer a standing
    -- 57: a start inside the body of another loop of the list; its lowest place
    start_inside : {p : ℕ} → Fits b labels standing → LoopListFits loops
        → ((i : ℕ) → i < length (loops_of loops) → LoopAt i)
        → Least (several.StartInside (StandingOf b labels standing) (loops_of loops)) p
        → TogetherAnswer (Err (StartInside p)) standing
    -- done: what stands then results by 000's multi-step removal of the list's loops, and exactly the bytes of their
    -- entries have become 0
    taken : {after : List ℕ} → Fits b labels standing → LoopListFits loops
        → MultiStep (StandingOf b labels standing) (loops_of loops) (StandingOf b labels after)
        → TakenOutOf b labels (Listing (loops_of loops)) standing after
        → TogetherAnswer (Ok tt) after
