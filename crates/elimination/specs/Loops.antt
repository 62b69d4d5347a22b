-- What the parts of the removal answer: where the entries of a loop lead, and which of L1, L2, L3 its chart breaks.
use Rattle.std.specs.Prelude.{ℕ, ◌<◌, ◌≡◌, List, ◌≢◌, length, get_or, Result, ◌↔◌}
use Rattle.theory.specs.Paths.{Edges}
use Rattle.theory.specs.Charts.{Loop}
use Rattle.theory.specs.LoopCharts.{Reached, Stray}
use Rattle.theory.specs.Removals.{Answer, Removes}
use Rattle.report.specs.declared.Refusal.{Refusal}
use Rattle.bits.specs.declared.sets.Set.{Set}
use Rattle.bits.specs.Sets.{Has}
use Rattle.chart.specs.Steps.{StandingOf}
use Rattle.elimination.specs.Removals.{removed_as}

-- a standing entry of the loop (v, l) leads to w
abbrev pub EntryTargets : (b labels standing : List ℕ) (v l w : ℕ) → Type 0
EntryTargets b labels standing v l w = (0 < l) × StandingOf b labels standing v l w

-- 51 passes: there is a standing entry of the loop (v, l), and the targets are what these lead to
pub record Entered (b labels standing : List ℕ) (v l : ℕ) (targets : Set) : Type 0 where
  pub some : Loop (StandingOf b labels standing) v l
  pub exactly : (w : ℕ) → Has targets w ↔ StandingOf b labels standing v l w

-- of bytes that stand beside labels, those whose label is l have become 0; all else is unchanged
pub record Cleared (labels : List ℕ) (l : ℕ) (before after : List ℕ) : Type 0 where
  pub long : length after ≡ length before
  pub gone : (k : ℕ) → k < length labels → get_or labels k 0 ≡ l → get_or after k 0 ≡ 0
  pub kept : (k : ℕ) → k < length labels → get_or labels k 0 ≢ l → get_or after k 0 ≡ get_or before k 0

-- r is the first of L1, L2, L3 that is broken: by what the entries reach, and by cycles aside of v
pub data Broken (v : ℕ) (Entry : ℕ → Type 0) (Other : Edges) : ℕ → Type 0 where
  first : ¬ Reached v Entry Other v → ¬ Stray v Entry Other → Broken v Entry Other 1
  second : Stray v Entry Other → Broken v Entry Other 2
  third : Reached v Entry Other v → ¬ Stray v Entry Other → Reached v Entry Other 0 → Broken v Entry Other 3

-- none is broken
pub record Unbroken (v : ℕ) (Entry : ℕ → Type 0) (Other : Edges) : Type 0 where
  pub returns : Reached v Entry Other v
  pub none : ¬ Stray v Entry Other
  pub not_end : ¬ Reached v Entry Other 0

-- the answer is the rule's
abbrev pub Ruled : (b labels standing : List ℕ) (v l : ℕ) → Result Unit Refusal → Type 0
Ruled b labels standing v l r = (a : Answer) × (r ≡ removed_as a) × Removes (StandingOf b labels standing) v l a
