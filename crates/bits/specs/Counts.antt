-- How many bits of a word are set.
use Rattle.std.specs.Prelude.{ℕ, zero, suc, ◌+◌, ◌/◌, ◌%◌, ◌^◌}

-- of the bits of x below k, how many are set
unfoldable pub bits_below : ℕ → ℕ → ℕ
bits_below x zero = 0
bits_below x (suc k) = bits_below x k + x / 2 ^ k % 2
