-- Tables of sets of the numbers below 128, two words a set.
use Rattle.std.specs.Prelude.{ℕ, ◌+◌, ◌*◌, ◌^◌, ◌≤◌, ◌<◌, ◌≡◌, ◌⊎◌, ◌↔◌, List, length, get_or, set}
use Rattle.bits.specs.declared.sets.Set.{Set}
use Rattle.bits.specs.Words.{On}
use Rattle.bits.specs.Sets.{Has}

-- set v of a table
unfoldable pub row_of : List ℕ → ℕ → Set
row_of a v = record { lo = get_or a (2 * v) 0; hi = get_or a (2 * v + 1) 0 }

-- w is in set v of a table
abbrev pub HasRow : List ℕ → ℕ → ℕ → Type 0
HasRow a v w = Has (row_of a v) w

-- the table with the set s as its set v
unfoldable pub put_row : List ℕ → ℕ → Set → List ℕ
put_row a v s = set (set a (2 * v) s.lo) (2 * v + 1) s.hi

-- it has no word that belongs to no set
abbrev pub WholeSets : List ℕ → Type 0
WholeSets a = (n : ℕ) × (length a ≡ 2 * n)

-- its words have 64 bits, as those of every table that runs have
abbrev pub Words : List ℕ → Type 0
Words a = (i : ℕ) → get_or a i 0 < 2 ^ 64

-- a has n sets, and set x has the numbers y with P x y
pub record Table (n : ℕ) (P : ℕ → ℕ → Type 0) (a : List ℕ) : Type 0 where
  pub long : length a ≡ 2 * n
  pub exactly : (x y : ℕ) → x < n → y < 128 → HasRow a x y ↔ P x y

-- a has whole sets, and set x has the numbers y with P x y; a set that it has not has nothing
pub record TableOf (P : ℕ → ℕ → Type 0) (a : List ℕ) : Type 0 where
  pub whole : WholeSets a
  pub exactly : (x y : ℕ) → y < 128 → HasRow a x y ↔ P x y

-- r has what the table a has, and those y in set x with P x y; a last word that belongs to no set stays
pub record Gains (P : ℕ → ℕ → Type 0) (a r : List ℕ) : Type 0 where
  pub long : length r ≡ length a
  pub exactly : (x y : ℕ) → 2 * x + 2 ≤ length a → y < 128 → HasRow r x y ↔ (HasRow a x y ⊎ P x y)
  pub odd : (x : ℕ) → length a ≡ 2 * x + 1 → get_or r (2 * x) 0 ≡ get_or a (2 * x) 0

-- where C holds, w in set v
abbrev pub When : Type 0 → ℕ → ℕ → ℕ → ℕ → Type 0
When C v w x y = C × (x ≡ v) × (y ≡ w)

-- w is above v by a bit of x
abbrev pub Above : ℕ → ℕ → ℕ → Type 0
Above v x w = (k : ℕ) × (w ≡ v + k) × On x k

-- some set of the table for a bit of x has w
abbrev pub InSome : List ℕ → ℕ → ℕ → Type 0
InSome a x w = (i : ℕ) × On x i × HasRow a i w

-- some set v + k of the table for a bit k of x has w
abbrev pub InSomeFrom : List ℕ → ℕ → ℕ → ℕ → Type 0
InSomeFrom a v x w = (k : ℕ) × On x k × HasRow a (v + k) w

-- one of the first n sets of the table has w
abbrev pub InFirst : List ℕ → ℕ → ℕ → Type 0
InFirst a n w = (v : ℕ) × (v < n) × HasRow a v w
