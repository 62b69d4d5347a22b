-- What the checks of a labelling are given, and what is worked out of it once.
use Rattle.std.specs.Prelude.{ℕ, ◌+◌, ◌*◌, ◌/◌, ◌%◌, ◌≤◌, ◌<◌, ◌≡◌, ◌⊎◌, ◌↔◌, List, length, get_or, Ok, Option, IfSome, unwrap_or}
use Rattle.bits.specs.First.{First}
use Rattle.bits.specs.declared.sets.Set.{Set}
use Rattle.bits.specs.Sets.{Has, Members, size_of}
use Rattle.bits.specs.Tables.{row_of, HasRow, TableOf}
use Rattle.theory.specs.Paths.{Edges}
use Rattle.theory.specs.Charts.{Steps, Any, Branch, Loop}
use Rattle.theory.specs.Checks.{Unreached, NoBranchCycle}
use Rattle.chart.specs.Bodies.{vertices_of, start_of, count_of, to_of}
use Rattle.chart.specs.Checks.{check_of}
use Rattle.chart.specs.Leaving.{Begins}
use Rattle.reach.specs.Searches.{Known}
use Rattle.chart.specs.Steps.{StepsOf}
use Rattle.witness.specs.declared.tables.Taken.{Taken}
use Rattle.witness.specs.declared.tables.Outgoing.{Outgoing}

-- 20, 21 and 30 pass, and begins says where the transitions of each vertex begin
pub record Given (b labels begins : List ℕ) : Type 0 where
  pub passed : check_of b ≡ Ok tt
  pub of_begins : Begins b begins
  pub long : length labels ≡ count_of b

-- entry transitions
abbrev pub Entry : Steps → Edges
Entry S u w = (l : ℕ) × (0 < l) × S u l w

-- u has an entry of level l
abbrev pub Enters : Steps → ℕ → ℕ → Type 0
Enters S l u = Loop S u l

-- u has an entry of level l or higher
abbrev pub EntersHigh : Steps → ℕ → ℕ → Type 0
EntersHigh S l u = (m : ℕ) × Loop S u m × (l ≤ m)

-- for each vertex that has entries their lowest level
pub record LowestLevels (S : Steps) (low : List ℕ) : Type 0 where
  pub long : length low ≡ 128
  pub each : (v l : ℕ) → Loop S v l → First (Loop S v) 0 256 (get_or low v 0)

-- a table has a set for each label
abbrev pub LevelsFit : List ℕ → List ℕ → Type 0
LevelsFit labels entered = (i : ℕ) → i < length labels → 2 * get_or labels i 0 + 2 ≤ length entered

-- what the loops are checked by: where the branches of each vertex lead to, by one step and by more, and never back;
-- where its entries lead to and their lowest level, and which vertices have an entry of each level or a higher one
pub record Tables (b labels branches after entries low high : List ℕ) : Type 0 where
  pub of_branches : TableOf (Branch (StepsOf b labels)) branches
  pub branches_room : 2 * vertices_of b ≤ length branches
  pub after_room : 2 * vertices_of b ≤ length after
  pub of_after : Known branches after 0 (vertices_of b)
  pub acyclic : NoBranchCycle (StepsOf b labels)
  pub of_entries : TableOf (Entry (StepsOf b labels)) entries
  pub of_low : LowestLevels (StepsOf b labels) low
  pub of_levels : TableOf (EntersHigh (StepsOf b labels)) high
  pub levels_fit : LevelsFit labels high

-- r is the lowest vertex that the start does not reach, if there is one
pub record FirstUnreached (b labels : List ℕ) (r : Option ℕ) : Type 0 where
  pub first : First (Unreached (vertices_of b) (StepsOf b labels) (start_of b)) 0 (vertices_of b) (unwrap_or r (vertices_of b))
  pub below : IfSome r (λ (w : ℕ). w < vertices_of b)

-- WHAT IS COLLECTED
abbrev pub NoSteps : Steps
NoSteps u l w = ⊥

-- the transitions of the first n vertices
abbrev pub FirstOf : ℕ → Steps → Steps
FirstOf n S u l w = (u < n) × S u l w

-- where the branches and the entries of u lead to
pub record OutgoingOf (S : Steps) (u : ℕ) (r : Outgoing) : Type 0 where
  pub of_branches : Members (Branch S u) r.branches
  pub of_entries : Members (Entry S u) r.entries

-- the levels of u's entries, by vertex: u in the set of each of them
abbrev pub EntersFrom : ℕ → Steps → ℕ → ℕ → Type 0
EntersFrom u S l x = (x ≡ u) × Enters S l x

-- for each vertex where its transitions, its branches and its entries lead to; for each level the vertices with an
-- entry of it
pub record Collected (S : Steps) (next branches entries entered : List ℕ) : Type 0 where
  pub of_next : TableOf (Any S) next
  pub of_branches : TableOf (Branch S) branches
  pub of_entries : TableOf (Entry S) entries
  pub of_entered : TableOf (Enters S) entered

-- these transitions in tables with a set for each vertex and for each level up to top
pub record Room (S : Steps) (n top : ℕ) (next branches entries entered : List ℕ) : Type 0 where
  pub collected : Collected S next branches entries entered
  pub for_next : 2 * n ≤ length next
  pub for_branches : 2 * n ≤ length branches
  pub for_entries : 2 * n ≤ length entries
  pub for_levels : 2 * top + 2 ≤ length entered

-- A RUN OF TRANSITIONS, from a up to e
-- transition i is a branch, and an entry
abbrev pub IsBranch : List ℕ → ℕ → Type 0
IsBranch labels i = get_or labels i 0 ≡ 0

abbrev pub IsEntry : List ℕ → ℕ → Type 0
IsEntry labels i = 0 < get_or labels i 0

-- transition i has this label
abbrev pub HasLabel : List ℕ → ℕ → ℕ → Type 0
HasLabel labels l i = get_or labels i 0 ≡ l

-- one of the run leads to w
abbrev pub RunLeads : List ℕ → ℕ → ℕ → ℕ → Type 0
RunLeads b a e w = (i : ℕ) × (a ≤ i) × (i < e) × (to_of b i ≡ w)

-- r has what s has, and what the run leads to
pub record WithTargets (b : List ℕ) (a e : ℕ) (s r : Set) : Type 0 where
  pub exactly : (w : ℕ) → Has r w ↔ (Has s w ⊎ RunLeads b a e w)

-- a first part of the run, all of it with P: what it leads to has come to the set s
pub record Took (b : List ℕ) (P : ℕ → Type 0) (a e : ℕ) (s : Set) (r : Taken) : Type 0 where
  pub from : a ≤ r.at
  pub to : r.at ≤ e
  pub each : (i : ℕ) → a ≤ i → i < r.at → P i
  pub targets : WithTargets b a r.at s r.set

-- u in the set of each label of the run
abbrev pub LevelsOf : List ℕ → ℕ → ℕ → ℕ → ℕ → ℕ → Type 0
LevelsOf labels a e u l x = (x ≡ u) × ((i : ℕ) × (a ≤ i) × (i < e) × (get_or labels i 0 ≡ l))

-- LEVELS. The sets of a table after set top have nothing
abbrev pub NoneAbove : List ℕ → ℕ → Type 0
NoneAbove a top = (x y : ℕ) → top < x → x < 256 → ¬ HasRow a x y

-- a set of the table after set x has y
abbrev pub InLater : List ℕ → ℕ → ℕ → Type 0
InLater a x y = (m : ℕ) × (x < m) × (m < 256) × HasRow a m y

-- how many numbers the sets 2 k and 2 k + 1 of a table have
abbrev pub sizes_of : List ℕ → ℕ → ℕ
sizes_of a k = size_of (row_of a (2 * k)) + size_of (row_of a (2 * k + 1))

-- r has x for each number of the set, and for the others what a has
pub record PutFor (s : Set) (x : ℕ) (a r : List ℕ) : Type 0 where
  pub long : length r ≡ length a
  pub of_set : (v : ℕ) → Has s v → get_or r v 0 ≡ x
  pub others : (v : ℕ) → ¬ Has s v → get_or r v 0 ≡ get_or a v 0

-- THE LOOPS OF ONE VERTEX
-- l is among the levels, a table of two sets
abbrev pub IsLevel : List ℕ → ℕ → Type 0
IsLevel a l = HasRow a (l / 128) (l % 128)

-- v has an entry of the level that stands in set x as y
abbrev pub EntryLevels : Steps → ℕ → ℕ → ℕ → Type 0
EntryLevels S v x y = Loop S v (128 * x + y)

-- an entry of v of level l leads to w
abbrev pub EntryTargets : Steps → ℕ → ℕ → ℕ → Type 0
EntryTargets S v l w = (0 < l) × S v l w

-- one of the run has the label l and leads to w
abbrev pub RunSteps : List ℕ → List ℕ → ℕ → ℕ → ℕ → ℕ → Type 0
RunSteps b labels a e l w = (i : ℕ) × (a ≤ i) × (i < e) × HasLabel labels l i × (to_of b i ≡ w)

-- the run has an entry of the level that stands in set x as y
abbrev pub RunLevels : List ℕ → List ℕ → ℕ → ℕ → ℕ → ℕ → Type 0
RunLevels b labels a e x y = (0 < 128 * x + y) × (w : ℕ) × RunSteps b labels a e (128 * x + y) w

-- an entry of the run of level l leads to w
abbrev pub RunTargets : List ℕ → List ℕ → ℕ → ℕ → ℕ → ℕ → Type 0
RunTargets b labels a e l w = (0 < l) × RunSteps b labels a e l w
