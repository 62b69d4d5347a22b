-- Lists of bytes, and sets of numbers as their bits (document 01: byte v÷8, bit worth 2^(v mod 8)).
use Rattle.std.specs.Prelude.{ℕ, zero, suc, ◌+◌, ◌*◌, ◌/◌, ◌%◌, ◌^◌, ◌≤◌, ◌<◌, ◌≡◌, Bool, cond, List, [], ◌∷◌, ◌++◌, length, get_or, drop, eqb}

-- every element is a byte, as those of a slice of bytes are
abbrev pub Bytes : List ℕ → Type 0
Bytes b = (k : ℕ) → get_or b k 0 < 256

-- lent bytes with xs at their beginning; those past it are kept
abbrev pub bytes_with : List ℕ → List ℕ → List ℕ
bytes_with xs out = xs ++ drop (length xs) out

-- whether v is in the set; past the last byte nothing is
abbrev pub has_bit : List ℕ → ℕ → Bool
has_bit s v = eqb ((get_or s (v / 8) 0 / 2 ^ (v % 8)) % 2) 1

-- of the bits below k, those with p: bit j is worth 2^j
unfoldable pub bits_of : (ℕ → Bool) → ℕ → ℕ
bits_of p zero = 0
bits_of p (suc k) = bits_of p k + cond (p k) (2 ^ k) 0

-- n bytes from byte i on, as a set of the numbers with p
unfoldable pub bytes_from : (ℕ → Bool) → ℕ → ℕ → List ℕ
bytes_from p i zero = []
bytes_from p i (suc n) = bits_of (λ j. p (8 * i + j)) 8 ∷ bytes_from p (suc i) n

-- sixteen bytes: a row, a follower's state
unfoldable pub set_bytes : (ℕ → Bool) → List ℕ
set_bytes p = bytes_from p 0 16

-- thirty-two bytes: a set of actions
unfoldable pub action_bytes : (ℕ → Bool) → List ℕ
action_bytes p = bytes_from p 0 32

-- of the n numbers from i on, those with p
unfoldable pub list_from : (ℕ → Bool) → ℕ → ℕ → List ℕ
list_from p i zero = []
list_from p i (suc n) = cond (p i) (i ∷ list_from p (suc i) n) (list_from p (suc i) n)

-- r is the highest byte of the list, or 0 where it has none
pub record HighestByte (bytes : List ℕ) (r : ℕ) : Type 0 where
  pub above : (i : ℕ) → get_or bytes i 0 ≤ r
  pub is_byte : 0 < r → (i : ℕ) × (i < length bytes) × (get_or bytes i 0 ≡ r)
