-- What document 01 says of each answer to a removal, over the transitions whose standing byte is 1, with the standing
-- bytes after it. An answer has the checks before it pass.
use Rattle.std.specs.Prelude.{ℕ, ◌≤◌, ◌<◌, ◌≡◌, ◌≢◌, List, length, get_or, Result, Ok, Err}
use Rattle.theory.specs.Paths.{Star, Endless, Returns}
use Rattle.theory.specs.Charts.{Steps, Loop}
use Rattle.theory.specs.LoopCharts.{Around}
use Rattle.theory.specs.MultiSteps.{LoopSubchart}
use Rattle.report.specs.declared.Refusal.{Refusal}
use Rattle.report.specs.declared.Refusal.TheVariants as refusal
use Rattle.report.specs.declared.Refusal.TheVariants.{StandingBytes, NoEntry, NotLoop}
use Rattle.chart.specs.Bodies.{count_of, WellFormed}
use Rattle.chart.specs.Refusals.{ChartRefused}
use Rattle.chart.specs.Steps.{StandingOf}
use Rattle.chart.specs.Standing.{TakenOut}

-- 50 passes: a byte a transition, 1 where it stands and 0 where it is gone
pub record StandingFits (b standing : List ℕ) : Type 0 where
  pub long : length standing ≡ count_of b
  pub marks : (i : ℕ) → i < count_of b → get_or standing i 0 ≤ 1

-- 20, 21, 30 and 50 pass
pub record Fits (b labels standing : List ℕ) : Type 0 where
  pub formed : WellFormed b
  pub each : length labels ≡ count_of b
  pub marked : StandingFits b standing

-- the refusals of the chart, the labels and the standing bytes, each with its place
pub data OpeningAnswer (b labels standing : List ℕ) : Result Unit Refusal → Type 0 where
  -- 20, 21
  other_chart : {p : Refusal} → ChartRefused b p → OpeningAnswer b labels standing (Err p)
  -- 30: not one byte a transition; the length
  other_length : WellFormed b → length labels ≢ count_of b
      → OpeningAnswer b labels standing (Err (refusal.LabelsLength (length labels)))
  -- 50: standing bytes not one a transition, or not 0 or 1
  other_standing : WellFormed b → length labels ≡ count_of b → ¬ StandingFits b standing
      → OpeningAnswer b labels standing (Err StandingBytes)

-- the refusals of the loop (v, l) where the transitions R stand, each with its place
pub data LoopRefused (R : Steps) (v l : ℕ) : Result Unit Refusal → Type 0 where
  -- 51: no such standing entry; the pair
  no_entry : ¬ Loop R v l → LoopRefused R v l (Err (NoEntry v l))
  -- 52: not a loop; the pair, and the first that is broken: L1, no endless path
  breaks_L1 : Loop R v l → ¬ Endless (Around R v l) v → LoopRefused R v l (Err (NotLoop v l 1))
  -- L2, not every endless path returns to v
  breaks_L2 : Loop R v l → Endless (Around R v l) v → ¬ Returns (Around R v l) v → LoopRefused R v l (Err (NotLoop v l 2))
  -- L3, it holds the end
  breaks_L3 : Loop R v l → Endless (Around R v l) v → Returns (Around R v l) v → Star (Around R v l) v 0
      → LoopRefused R v l (Err (NotLoop v l 3))

-- EACH ANSWER, with the standing bytes after it; a refusal leaves them as they were
pub data RemovalAnswer (b labels : List ℕ) (v l : ℕ) (standing : List ℕ) : Result Unit Refusal → (after : List ℕ) → Type 0 where
  -- 20, 21, 30 and 50
  opening : {a : Result Unit Refusal} → OpeningAnswer b labels standing a → RemovalAnswer b labels v l standing a standing
  -- 51 and 52
  refused : {a : Result Unit Refusal} → Fits b labels standing → LoopRefused (StandingOf b labels standing) v l a
      → RemovalAnswer b labels v l standing a standing
  -- done: it has a standing entry and its chart is a loop chart, and exactly the bytes of its entries have become 0
  taken : {after : List ℕ} → Fits b labels standing → LoopSubchart (StandingOf b labels standing) (v, l)
      → TakenOut b labels v l standing after → RemovalAnswer b labels v l standing (Ok tt) after
