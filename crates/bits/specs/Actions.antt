-- Sets of actions: of the numbers below 256.
use Rattle.std.specs.Prelude.{ℕ, ◌+◌, ◌/◌, ◌%◌, ◌<◌, ◌≡◌, List, ◌↔◌, cond, ltb, length, get_or}
use Rattle.bits.specs.declared.sets.Set.{Set}
use Rattle.bits.specs.declared.actions.Actions.{Actions}
use Rattle.bits.specs.Words.{On}
use Rattle.bits.specs.Sets.{Has, empty_set, SetFits, size_of}

-- the half that has a: the numbers below 128, or the others, each less 128
abbrev pub half_with : Actions → ℕ → Set
half_with s a = cond (ltb a 128) s.low s.high

-- a is in the set
pub record HasAction (s : Actions) (a : ℕ) : Type 0 where
  pub below : a < 256
  pub member : Has (half_with s a) (a % 128)

abbrev pub no_actions : Actions
no_actions = record { low = empty_set; high = empty_set }

-- nothing is in the set
abbrev pub NoAction : Actions → Type 0
NoAction s = (a : ℕ) → ¬ HasAction s a

-- of the numbers below 256 the set has those with P
pub record ActionsWith (P : ℕ → Type 0) (s : Actions) : Type 0 where
  pub exactly : (a : ℕ) → a < 256 → HasAction s a ↔ P a

-- the same members
abbrev pub SameActions : Actions → Actions → Type 0
SameActions s t = (a : ℕ) → HasAction s a ↔ HasAction t a

-- its words have 64 bits, as those of every set that runs have
abbrev pub ActionsFit : Actions → Type 0
ActionsFit s = SetFits s.low × SetFits s.high

-- how many numbers the set has
abbrev pub action_count : Actions → ℕ
action_count s = size_of s.low + size_of s.high

-- thirty-two bytes that have the set's bits
pub record ActionBytes (s : Actions) (r : List ℕ) : Type 0 where
  pub long : length r ≡ 32
  pub below : (k : ℕ) → get_or r k 0 < 256
  pub exactly : (a : ℕ) → a < 256 → On (get_or r (a / 8) 0) (a % 8) ↔ HasAction s a
