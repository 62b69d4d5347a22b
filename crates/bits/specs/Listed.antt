-- The bits of a word and the members of a set as lists, the lowest first: what going over them gives.
use Rattle.std.specs.Prelude.{ℕ, ◌/◌, ◌%◌, ◌^◌, Bool, eqb, List}
use Rattle.bits.specs.declared.sets.Set.{Set}
use Rattle.bits.specs.declared.walks.BitPlaces.{BitPlaces}
use Rattle.bits.specs.declared.walks.Numbers.{Numbers}
use Rattle.bits.specs.Bits.{list_from}
use Rattle.bits.specs.Sets.{half_of}

-- the tests that run: bit k of x is set, and w, below 128, is in the set
abbrev pub is_on : ℕ → ℕ → Bool
is_on x k = eqb (x / 2 ^ k % 2) 1

abbrev pub is_in : Set → ℕ → Bool
is_in s w = is_on (half_of s w) (w % 64)

-- the places of the bits of a word
unfoldable pub places_of : ℕ → List ℕ
places_of x = list_from (is_on x) 0 64

-- the members of a set
unfoldable pub members_of : Set → List ℕ
members_of s = list_from (is_in s) 0 128

-- those that are left of a walk
abbrev pub places_left : BitPlaces → List ℕ
places_left walk = places_of walk.left

abbrev pub members_left : Numbers → List ℕ
members_left walk = members_of walk.left
