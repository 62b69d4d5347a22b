-- Sets of the numbers below 128.
use Rattle.std.specs.Prelude.{ℕ, min, ◌+◌, ◌/◌, ◌%◌, ◌^◌, ◌≤◌, ◌<◌, ◌≡◌, List, ◌⊎◌, ◌↔◌, cond, ltb, length, get_or}
use Rattle.bits.specs.declared.sets.Set.{Set}
use Rattle.bits.specs.Words.{On}
use Rattle.bits.specs.Counts.{bits_below}

-- the word of the two that has the bit of w
abbrev pub half_of : Set → ℕ → ℕ
half_of s w = cond (ltb w 64) s.lo s.hi

-- w is in the set
pub record Has (s : Set) (w : ℕ) : Type 0 where
  pub below : w < 128
  pub on : On (half_of s w) (w % 64)

abbrev pub empty_set : Set
empty_set = record { lo = 0; hi = 0 }

-- of the numbers below 128 the set has those with P
pub record Members (P : ℕ → Type 0) (s : Set) : Type 0 where
  pub exactly : (w : ℕ) → w < 128 → Has s w ↔ P w

-- nothing is in the set
abbrev pub Empty : Set → Type 0
Empty s = (w : ℕ) → ¬ Has s w

-- the same members
abbrev pub SameMembers : Set → Set → Type 0
SameMembers s t = (w : ℕ) → Has s w ↔ Has t w

abbrev pub Union : Set → Set → Set → Type 0
Union s t r = (w : ℕ) → Has r w ↔ (Has s w ⊎ Has t w)

abbrev pub Intersection : Set → Set → Set → Type 0
Intersection s t r = (w : ℕ) → Has r w ↔ (Has s w × Has t w)

abbrev pub Difference : Set → Set → Set → Type 0
Difference s t r = (w : ℕ) → Has r w ↔ (Has s w × (¬ Has t w))

-- r is the highest number of the set
pub record Last (s : Set) (r : ℕ) : Type 0 where
  pub has : Has s r
  pub above : (w : ℕ) → r < w → ¬ Has s w

-- its words have 64 bits, as those of every set that runs have
abbrev pub SetFits : Set → Type 0
SetFits s = (s.lo < 2 ^ 64) × (s.hi < 2 ^ 64)

-- how many numbers the set has
abbrev pub size_of : Set → ℕ
size_of s = bits_below s.lo 64 + bits_below s.hi 64

-- sixteen bytes that have the set's bits
pub record BytesOf (s : Set) (r : List ℕ) : Type 0 where
  pub long : length r ≡ 16
  pub below : (k : ℕ) → get_or r k 0 < 256
  pub exactly : (w : ℕ) → w < 128 → On (get_or r (w / 8) 0) (w % 8) ↔ Has s w

-- a table of 192 words by which a number below n comes into a set: from word 64 on, what each bit of a word is worth that
-- such a number needs; the others are 0
pub record Ones (n : ℕ) (a : List ℕ) : Type 0 where
  pub long : length a ≡ 192
  pub worth : (k : ℕ) → k < min n 64 → get_or a (64 + k) 0 ≡ 2 ^ k
  pub before : (i : ℕ) → i < 64 → get_or a i 0 ≡ 0
  pub after : (i : ℕ) → 64 + min n 64 ≤ i → get_or a i 0 ≡ 0
