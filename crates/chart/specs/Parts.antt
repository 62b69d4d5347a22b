-- The transitions of one vertex as a part of the body: four bytes each, as they stand there.
use Rattle.std.specs.Prelude.{ℕ, ◌+◌, ◌-◌, ◌*◌, ◌/◌, ◌≤◌, ◌<◌, ◌≡◌, List, [], length, get_or, take, drop}
use Rattle.bits.specs.First.{Split}
use Rattle.bits.specs.Sets.{Has}
use Rattle.bits.specs.declared.Span.{Span}
use Rattle.bits.specs.declared.sets.Set.{Set}
use Rattle.chart.specs.Bodies.{count_of}
use Rattle.chart.specs.Leaving.{FromBelow}

-- how many transitions a part has, and of each the action and the to
abbrev pub count_in : List ℕ → ℕ
count_in part = length part / 4

abbrev pub action_in : List ℕ → ℕ → ℕ
action_in part i = get_or part (4 * i + 1) 0

abbrev pub to_in : List ℕ → ℕ → ℕ
to_in part i = get_or part (4 * i + 2) 0

-- a part has the transitions of v in the body b: those from transition `at` on
pub record PartOf (b : List ℕ) (v : ℕ) (part : List ℕ) : Type 0 where
  pub at : ℕ
  pub begins : Split (FromBelow b v) (count_of b) at
  pub ends : Split (FromBelow b (v + 1)) (count_of b) (at + count_in part)
  pub whole : length part ≡ 4 * count_in part
  pub same : (i : ℕ) → i < length part → get_or part i 0 ≡ get_or b (4 * at + 4 + i) 0

-- of bytes that stand one beside each transition, those of a range
abbrev pub beside : Span → List ℕ → List ℕ
beside r bytes = take (r.to - r.from) (drop r.from bytes)

-- what a part of a body that passes has: four bytes a transition, each to is below 128, and actions do not fall
pub record Row (part : List ℕ) : Type 0 where
  pub whole : length part ≡ 4 * count_in part
  pub low : (i : ℕ) → i < count_in part → to_in part i < 128
  pub sorted : (i j : ℕ) → i ≤ j → j < count_in part → action_in part i ≤ action_in part j

-- byte k of row i
abbrev pub row_byte : List (List ℕ) → ℕ → ℕ → ℕ
row_byte rows i k = get_or (get_or rows i []) k 0

-- the transitions of a part of a body that passes, a row of four bytes each
pub record RowsOf (part : List ℕ) (rows : List (List ℕ)) : Type 0 where
  pub row : Row part
  pub many : length rows ≡ count_in part
  pub same : (i k : ℕ) → i < length rows → k < 4 → row_byte rows i k ≡ get_or part (4 * i + k) 0
  pub byte : (i k : ℕ) → i < length rows → k < 4 → row_byte rows i k < 256

-- some transition of a part leads to w, at an index with P
pub record Enters (part : List ℕ) (P : ℕ → Type 0) (w : ℕ) : Type 0 where
  pub at : ℕ
  pub within : at < count_in part
  pub enters : to_in part at ≡ w
  pub holds : P at

-- every index
abbrev pub Every : ℕ → Type 0
Every i = Unit {0}

-- the action of a part's transition i is a
pub record ActsAt (part : List ℕ) (a i : ℕ) : Type 0 where
  pub is : action_in part i ≡ a

-- some transition of a part with the action a leads to w
abbrev pub ActsTo : List ℕ → ℕ → ℕ → Type 0
ActsTo part a w = Enters part (ActsAt part a) w

-- a part has a transition with the action a
pub record ActsIn (part : List ℕ) (a : ℕ) : Type 0 where
  pub to : ℕ
  pub acts : ActsTo part a to

-- a part has a transition with the action a to a vertex of the set
pub record EntersSet (part : List ℕ) (t : Set) (a : ℕ) : Type 0 where
  pub to : ℕ
  pub acts : ActsTo part a to
  pub member : Has t to

-- the actions of rows do not fall
abbrev pub ActionsRise : List (List ℕ) → Type 0
ActionsRise rows = (i j : ℕ) → i ≤ j → j < length rows → row_byte rows i 1 ≤ row_byte rows j 1

-- the actions of the first n rows are lower than a
pub record Lower (rows : List (List ℕ)) (a n : ℕ) : Type 0 where
  pub within : n ≤ length rows
  pub below : (i : ℕ) → i < n → row_byte rows i 1 < a
