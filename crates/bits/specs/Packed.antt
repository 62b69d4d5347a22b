-- Bytes that follow each other as one number, the first the lowest.
use Rattle.std.specs.Prelude.{ℕ, ◌+◌, ◌*◌, ◌/◌, ◌%◌, ◌^◌, ◌<◌, ◌↔◌, List, get_or}
use Rattle.bits.specs.Words.{On}

-- two bytes, and four
abbrev pub two_at : List ℕ → ℕ → ℕ
two_at s p = get_or s p 0 + 256 * get_or s (p + 1) 0

abbrev pub four_at : List ℕ → ℕ → ℕ
four_at s p = get_or s p 0 + 256 * get_or s (p + 1) 0 + 65536 * get_or s (p + 2) 0 + 16777216 * get_or s (p + 3) 0

-- r has the bits of the n bytes from `at` on
pub record Packed (s : List ℕ) (at n r : ℕ) : Type 0 where
  pub below : r < 2 ^ (8 * n)
  pub exactly : (j : ℕ) → j < 8 * n → On r j ↔ On (get_or s (at + j / 8) 0) (j % 8)
