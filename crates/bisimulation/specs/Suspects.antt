-- The pairs that 43 to 45 may refuse, found by sets: the tables, and the contracts of the code that reads them.
use Rattle.std.specs.Prelude.{◌≡◌, ◌↔◌, List, ℕ, ◌/◌, ◌%◌, ◌≤◌, ◌<◌, length, get_or}
use Rattle.theory.specs.Relations.{EndsAgree}
use Rattle.bits.specs.declared.sets.Set.{Set}
use Rattle.bits.specs.Words.{On}
use Rattle.bits.specs.Sets.{Has, Members}
use Rattle.bits.specs.Tables.{HasRow, InSome}
use Rattle.chart.specs.Bodies.{count_of, from_of, action_of, to_of}
use Rattle.bisimulation.specs.declared.clearing.Latest.{Latest}
use Rattle.bisimulation.specs.declared.clearing.Matches.{Matches}
use Rattle.bisimulation.specs.Answers.{Related}

-- THE TABLES
-- rows a and b are related to the same vertices
abbrev pub SameRow : List ℕ → ℕ → ℕ → Type 0
SameRow relation a b = (w : ℕ) → w < 128 → Related relation a w ↔ Related relation b w

-- P holds from i up to b, which is above i and not above n
pub record Stretch (P : ℕ → Type 0) (n i b : ℕ) : Type 0 where
  pub some : i < b
  pub within : b ≤ n
  pub each : (j : ℕ) → i ≤ j → j < b → P j

-- v is in the set and related to u
abbrev pub Column : (relation : List ℕ) → Set → (v u : ℕ) → Type 0
Column relation among v u = Has among v × Related relation u v

-- the row of a key's target
abbrev pub row_at : List ℕ → ℕ → ℕ
row_at keys i = get_or keys i 0 % 256

-- z is the number, below n, of a key whose target is related to w
abbrev pub KeyInto : (relation keys : List ℕ) → (n w z : ℕ) → Type 0
KeyInto relation keys n w z = (z < n) × Related relation (row_at keys z) w

-- word w has the steps whose target is related to w
pub record Into (relation keys : List ℕ) (m : ℕ) (r : List ℕ) : Type 0 where
  pub long : length r ≡ 128
  pub exactly : (w k : ℕ) → w < 128 → On (get_or r w 0) k ↔ KeyInto relation keys m w k

-- each of the n words has the numbers below m of its kind
pub record Sorted (kind : ℕ → ℕ) (n m : ℕ) (r : List ℕ) : Type 0 where
  pub long : length r ≡ n
  pub exactly : (x k : ℕ) → x < n → On (get_or r x 0) k ↔ ((k < m) × (kind k ≡ x))

-- word a has the steps with the action a
abbrev pub Acting : (keys : List ℕ) → (m : ℕ) → (r : List ℕ) → Type 0
Acting keys m r = Sorted (λ (k : ℕ). get_or keys k 0 / 256) 256 m r

-- words u and j are the same
abbrev pub SameWord : List ℕ → ℕ → ℕ → Type 0
SameWord words u j = get_or words j 0 ≡ get_or words u 0

-- row u, one of the first `rows`, has the step k
abbrev pub UsedBy : (words : List ℕ) → (rows k u : ℕ) → Type 0
UsedBy words rows k u = (u < rows) × On (get_or words u 0) k

-- a word of steps: all that a row has
abbrev pub Used : List ℕ → ℕ → ℕ → Type 0
Used words rows r = (u k : ℕ) → u < rows → On (get_or words u 0) k → On r k

-- THE SEARCH
-- by the tables, step k matches transition i of the body
abbrev pub Match : (into acting body : List ℕ) → ℕ → ℕ → Type 0
Match into acting body i k = On (get_or into (to_of body i) 0) k × On (get_or acting (action_of body i) 0) k

-- step k matches one of the transitions from a up to b
abbrev pub MatchedIn : (into acting body : List ℕ) → (a b k : ℕ) → Type 0
MatchedIn into acting body a b k = (i : ℕ) × (a ≤ i) × (i < b) × Match into acting body i k

-- by the tables, 43 to 45 pass for u and v
pub record Clear (into acting words body : List ℕ) (u v : ℕ) : Type 0 where
  pub ends : EndsAgree u v
  pub forth : (k : ℕ) → On (get_or words u 0) k
      → (i : ℕ) × (i < count_of body) × (from_of body i ≡ v) × Match into acting body i k
  pub back : (i : ℕ) → i < count_of body → from_of body i ≡ v
      → (k : ℕ) × On (get_or words u 0) k × Match into acting body i k

-- row u has a step that matches transition i
abbrev pub Able : (into acting users body : List ℕ) → (i u : ℕ) → Type 0
Able into acting users body i u = (k : ℕ) × Match into acting body i k × HasRow users k u

-- the rows are those with one of the steps
abbrev pub Knows : (users : List ℕ) → Latest → Type 0
Knows users k = Members (InSome users k.steps) k.rows

-- of the transitions from a to b: steps that match one of them, and rows of the set with a step for each of them
pub record Walked (into acting users body : List ℕ) (a b : ℕ) (set : Set) (r : Matches) : Type 0 where
  pub matched : (k : ℕ) → On r.matched k → MatchedIn into acting body a b k
  pub given : (u : ℕ) → Has r.able u → Has set u
  pub able : (u : ℕ) → Has r.able u → (i : ℕ) → a ≤ i → i < b → Able into acting users body i u

-- row u of the set may be related to v by 43
abbrev pub SameEnd : ℕ → Set → ℕ → Type 0
SameEnd v set u = Has set u × EndsAgree u v

-- the same by the sets of the rows with a step
pub record Cleared (into acting users : List ℕ) (used : ℕ) (body : List ℕ) (u v : ℕ) : Type 0 where
  pub ends : EndsAgree u v
  pub forth : (k : ℕ) → On used k → HasRow users k u
      → (i : ℕ) × (i < count_of body) × (from_of body i ≡ v) × Match into acting body i k
  pub back : (i : ℕ) → i < count_of body → from_of body i ≡ v → Able into acting users body i u

-- of the rows of the set, those outside r pass with v
pub record Refusable (into acting users : List ℕ) (used : ℕ) (body : List ℕ) (v : ℕ) (set r : Set) : Type 0 where
  pub given : (u : ℕ) → Has r u → Has set u
  pub others : (u : ℕ) → Has set u → ¬ Has r u → Cleared into acting users used body u v

-- of the rows of each of the first n sets of columns, those outside the set in r pass with its vertex
pub record Gathered (columns into acting users : List ℕ) (used : ℕ) (body : List ℕ) (n : ℕ) (r : List ℕ) : Type 0 where
  pub long : length r ≡ 256
  pub given : (u v : ℕ) → v < n → HasRow r v u → HasRow columns v u
  pub others : (u v : ℕ) → v < n → HasRow columns v u → ¬ HasRow r v u → Cleared into acting users used body u v
