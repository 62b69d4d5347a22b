-- What the walk through the chart of a loop finds, and what it goes by.
use Rattle.std.specs.Prelude.{ℕ, ◌<◌, ◌≡◌, ◌≢◌, ◌⊎◌, ◌↔◌, List, length, get_or, Option, Some, None, Result, Ok, Err}
use Rattle.theory.specs.Paths.{Edges, Star, Endless, Avoid}
use Rattle.theory.specs.LoopCharts.{Reached, Stray}
use Rattle.bits.specs.declared.sets.Set.{Set}
use Rattle.bits.specs.Sets.{Has}
use Rattle.bits.specs.Tables.{HasRow}
use Rattle.report.specs.declared.Refusal.{Refusal}
use Rattle.report.specs.declared.Refusal.TheVariants.{NotLoop}
use Rattle.elimination.specs.Loops.{Broken, Unbroken}
use Rattle.elimination.specs.declared.walk.Found.{Found}
use Rattle.elimination.specs.declared.walk.Stops.{Stops}

-- two sets have a member in common
abbrev pub Meets : Set → Set → Type 0
Meets a b = (x : ℕ) × Has a x × Has b x

-- for each member of `read`, its set of the table has what E leads to from it
pub record RowsOf (E : Edges) (read : Set) (a : List ℕ) : Type 0 where
  pub long : length a ≡ 256
  pub exactly : (x y : ℕ) → Has read x → y < 128 → HasRow a x y ↔ E x y

-- y is not past, and E leads to it from the last vertex of a path of `depth` vertices, which stand from entry 1 on; where
-- there is none, it is a target
pub record Onward (E : Edges) (path : List ℕ) (depth : ℕ) (targets past : Set) (y : ℕ) : Type 0 where
  pub left : ¬ Has past y
  pub first : depth ≡ 0 → Has targets y
  pub follows : 0 < depth → E (get_or path depth 0) y

-- what is known of the vertices that are past: from none a path goes on for ever that does not leave the vertex where
-- walks stop, they lead to none that is not past, and those of `back` lead to where walks stop
pub record Settled (E : Edges) (s : Stops) : Type 0 where
  pub stop : Has s.past s.at
  pub gone : (x : ℕ) → Has s.past x → x ≢ s.at → ¬ Endless (Avoid s.at E) x
  pub closed : (x y : ℕ) → Has s.past x → x ≢ s.at → E x y → Has s.past y
  pub back_past : (x : ℕ) → Has s.back x → Has s.past x
  pub leads_back : (x : ℕ) → Has s.past x → Has s.back x ↔ Star (Avoid s.at E) x s.at

-- walks stop at v, and nothing else is past
pub record Alone (v : ℕ) (s : Stops) : Type 0 where
  pub at : s.at ≡ v
  pub past : (y : ℕ) → Has s.past y ↔ (y ≡ v)
  pub back : (y : ℕ) → Has s.back y ↔ (y ≡ v)

-- what stays settled when walks stop at v and no longer where they did: all where it is the same vertex; else what does
-- not lead to where they did, where v is not among it; else nothing but v
pub data StopsAt (v : ℕ) (before s : Stops) : Type 0 where
  same : v ≡ before.at → s ≡ before → StopsAt v before s
  apart : s.at ≡ v → ¬ (Has before.past v × ¬ Has before.back v)
      → ((y : ℕ) → Has s.past y ↔ ((Has before.past y × ¬ Has before.back y) ⊎ (y ≡ v))) → ((y : ℕ) → Has s.back y ↔ (y ≡ v))
      → StopsAt v before s
  fresh : Alone v s → StopsAt v before s

-- what a walk finds of a loop with these entries and other transitions, which starts where walks stop and has no cycle
-- aside: of its body all that was not past
pub record Walked (Entry : ℕ → Type 0) (Other : Edges) (before : Stops) (found : Found) : Type 0 where
  pub same : found.stops.at ≡ before.at
  pub none : ¬ Stray before.at Entry Other
  pub sound : (w : ℕ) → Has found.body w → Reached before.at Entry Other w
  pub all : (w : ℕ) → Reached before.at Entry Other w → Has found.body w ⊎ Has before.past w
  pub returns : Meets found.body found.stops.back ↔ Reached before.at Entry Other before.at
  pub settled : Settled Other found.stops
  pub grown : (w : ℕ) → Has found.stops.past w → Has before.past w ⊎ Has found.body w

-- what a walk finds, or that there is a cycle aside
pub data FoundIn (Entry : ℕ → Type 0) (Other : Edges) (before : Stops) : Option Found → Type 0 where
  aside : Stray before.at Entry Other → FoundIn Entry Other before None
  whole : {found : Found} → Walked Entry Other before found → FoundIn Entry Other before (Some found)

-- which of L1, L2, L3 is broken first, by what a walk finds: 2 where it finds none, and else by what of the body leads back,
-- and by whether the end is in it
pub data BrokenBy : Option Found → ℕ → Type 0 where
  found_first : {found : Found} → ¬ Meets found.body found.stops.back → BrokenBy (Some found) 1
  found_second : BrokenBy None 2
  found_third : {found : Found} → Meets found.body found.stops.back → Has found.body 0 → BrokenBy (Some found) 3

-- 52 of a loop with the level l: the first of L1, L2, L3 that is broken; or what a walk finds, where none is
pub data Judged (Entry : ℕ → Type 0) (Other : Edges) (before : Stops) (l : ℕ) : Result Found Refusal → Type 0 where
  passed : {found : Found} → Unbroken before.at Entry Other → Walked Entry Other before found
      → Judged Entry Other before l (Ok found)
  refused : {r : ℕ} → Broken before.at Entry Other r → Judged Entry Other before l (Err (NotLoop before.at l r))
