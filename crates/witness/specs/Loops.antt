-- What 33 to 35 say of one loop, and what they go by.
use Rattle.std.specs.Prelude.{ℕ, ◌+◌, ◌<◌, ◌≢◌, ◌⊎◌, ◌↔◌, ◌≡◌, Bool, true, List, length, Result, Ok, Err, IsNone, IfSome}
use Rattle.bits.specs.declared.sets.Set.{Set}
use Rattle.bits.specs.Sets.{Has, Empty, Members}
use Rattle.bits.specs.Tables.{row_of, HasRow, TableOf}
use Rattle.theory.specs.Paths.{Avoid}
use Rattle.theory.specs.Charts.{Steps, Loop}
use Rattle.theory.specs.LoopCharts.{InBody}
use Rattle.theory.specs.Checks.{LoopPasses}
use Rattle.report.specs.declared.Refusal.{Refusal}
use Rattle.chart.specs.Bodies.{WellFormed}
use Rattle.reach.specs.Searches.{Leads, FromSet, Closed}
use Rattle.chart.specs.Steps.{StepsOf}
use Rattle.witness.specs.Answers.{FailsAt}
use Rattle.witness.specs.Given.{EntersHigh, IsLevel, Tables}
use Rattle.witness.specs.declared.loop_tables.LoopTables.{LoopTables}
use Rattle.witness.specs.declared.loop_checks.Part.{Part}
use Rattle.witness.specs.declared.loop_checks.Survey.{Survey}

-- the transitions of the labelling
abbrev pub steps_of : LoopTables → Steps
steps_of t = StepsOf t.labelling.chart.now.body.now t.labelling.labels.now

-- the tables are those of the labelling
abbrev pub TablesOf : LoopTables → Type 0
TablesOf t = Tables t.labelling.chart.now.body.now t.labelling.labels.now t.branches.next.now t.branches.after.now t.entries.now t.low.now t.high.now

abbrev pub LoopSaid : Steps → ℕ → ℕ → Result Unit Refusal → Type 0
LoopSaid S v l (Ok tt) = LoopPasses S v l
LoopSaid S v l (Err p) = FailsAt S v l p

-- w is v, or has v in its set of the table
abbrev pub Back : List ℕ → ℕ → ℕ → Type 0
Back after v w = (w ≡ v) ⊎ HasRow after w v

-- w is in the set, and is v or has v in its set of the table
abbrev pub Returning : List ℕ → ℕ → Set → ℕ → Type 0
Returning after v set w = Has set w × Back after v w

-- w, which is not v, is in the set and in set `level` of the table
abbrev pub InBoth : Set → List ℕ → ℕ → ℕ → ℕ → Type 0
InBoth set high v level w = (Has set w × HasRow high level w) × (w ≢ v)

-- the set has neither the end nor, v aside, a vertex of set `level` of the table
pub record BelowLevel (set : Set) (high : List ℕ) (v level : ℕ) : Type 0 where
  pub endless : ¬ Has set 0
  pub lower : (w : ℕ) → ¬ InBoth set high v level w

-- w has no place in the body of the loop (v, l): it is the end, or it is not v and has an entry of level l or higher
abbrev pub Barred : Steps → ℕ → ℕ → ℕ → Type 0
Barred S v l w = (w ≡ 0) ⊎ ((w ≢ v) × EntersHigh S l w)

-- BY LEVEL
-- w is in the body of a loop of v below level l
abbrev pub InLower : Steps → ℕ → ℕ → ℕ → Type 0
InLower S v l w = (m : ℕ) × Loop S v m × (m < l) × InBody S v m w

-- of what has no place in the body of (v, l) the set has what is there nevertheless
abbrev pub Tells : Steps → ℕ → ℕ → Set → Type 0
Tells S v l set = (w : ℕ) → w < 128 → Barred S v l w → Has set w ↔ InBody S v l w

-- the loop (v, level) of a labelled chart: the set `back` has something exactly where the loop returns, and the set
-- `seen` tells what 34 and 35 ask
pub record LoopGiven (b labels high : List ℕ) (v level : ℕ) (back seen : Set) : Type 0 where
  pub formed : WellFormed b
  pub of_levels : TableOf (EntersHigh (StepsOf b labels)) high
  pub returns : (¬ Empty back) ↔ InBody (StepsOf b labels) v level v
  pub tells : Tells (StepsOf b labels) v level seen

-- BY ENTRY
-- the set `inside` has what another reaches by the table `branches` without leaving v
abbrev pub HasReached : List ℕ → ℕ → Set → Set → Type 0
HasReached branches v set inside = (w : ℕ) → w < 128 → FromSet (Avoid v (Leads branches)) set w → Has inside w

-- all that is below the level
abbrev pub ReachesBelow : List ℕ → List ℕ → ℕ → ℕ → Set → Type 0
ReachesBelow branches high v level set =
    (inside : Set) × HasReached branches v set inside × BelowLevel inside high v level

-- u is w, or is in set w of the table
abbrev pub InOrAfter : List ℕ → ℕ → ℕ → Type 0
InOrAfter after w u = HasRow after w u ⊎ (u ≡ w)

-- of w and its set of the table none is the end, and none is in set `level` of the other
pub record Below (after high : List ℕ) (level w : ℕ) : Type 0 where
  pub endless : ¬ InOrAfter after w 0
  pub lower : (u : ℕ) → InOrAfter after w u → ¬ HasRow high level u

-- an entry of this level to w, which does not return: nothing is asked of it, or w is below the level
abbrev pub EntryPasses : Bool → List ℕ → List ℕ → ℕ → ℕ → Type 0
EntryPasses all after high level w = (all ≡ true) ⊎ Below after high level w

-- a transition with this label to w is marked, among the levels that return or from 256 on; a branch is not. Where r
-- is true, it passes if it is an entry
pub record EntryMarked (all : Bool) (after high : List ℕ) (v label w : ℕ) (before : List ℕ) (r : Bool) (levels : List ℕ)
    : Type 0 where
  pub long : length levels ≡ length before
  pub kept : (k : ℕ) → k < 512 → IsLevel before k → IsLevel levels k
  pub only : (k : ℕ) → k < 256 → IsLevel levels k → IsLevel before k ⊎ ((k ≡ label) × Back after v w)
  pub passes : r ≡ true → 0 < label
      → Back after v w ⊎ (EntryPasses all after high label w × IsLevel levels (256 + label))

-- each entry of v returns or passes, and each level has one that returns
pub record EntriesPass (all : Bool) (S : Steps) (after high : List ℕ) (v : ℕ) : Type 0 where
  pub each : (l w : ℕ) → 0 < l → S v l w → Back after v w ⊎ EntryPasses all after high l w
  pub returns : (l w : ℕ) → 0 < l → S v l w → (x : ℕ) × S v l x × Back after v x

-- ALL AT ONCE
-- w is below n, and its set of the table has nothing
abbrev pub DeadEnd : List ℕ → ℕ → ℕ → Type 0
DeadEnd branches n w = (w < n) × Empty (row_of branches w)

-- what a set reaches without leaving v, or more: v aside, none of it is in set `level` of the table or among the ends
pub record LeadsOn (branches high : List ℕ) (ends : Set) (v level : ℕ) (set : Set) : Type 0 where
  pub all : Set
  pub reached : HasReached branches v set all
  pub closed : Closed (Avoid v (Leads branches)) all
  pub lower : (w : ℕ) → Has all w → HasRow high level w → w ≡ v
  pub onward : (w : ℕ) → Has all w → Has ends w → w ≡ v

-- branches leave the part by its last vertex alone
pub record LeftBy (branches : List ℕ) (part : Part) : Type 0 where
  pub low : part.last < 128
  pub closed : Closed (Avoid part.last (Leads branches)) part.set

-- of v, whose entries lead to a set: that leads on, or which of it return and what these reach, or more
pub record SurveyOf (branches after high : List ℕ) (ends : Set) (v level : ℕ) (to : Set) (r : Survey) : Type 0 where
  pub left : LeftBy branches r.part
  pub passes : IsNone r.back → LeadsOn branches high ends v level to
  pub returns : IfSome r.back (λ back. Members (Returning after v to) back × HasReached branches v back r.part.set)
