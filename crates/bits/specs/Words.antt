-- Words of 64 bits.
use Rattle.std.specs.Prelude.{ℕ, ◌/◌, ◌%◌, ◌^◌, ◌<◌, ◌≡◌, ◌≢◌, ◌⊎◌, ◌↔◌}

-- bit k of x is set
abbrev pub On : ℕ → ℕ → Type 0
On x k = x / 2 ^ k % 2 ≡ 1

-- r is the lowest bit of x that is set
pub record LowestOn (x r : ℕ) : Type 0 where
  pub within : r < 64
  pub on : On x r
  pub below : (k : ℕ) → k < r → ¬ On x k

-- r is the highest bit of x that is set
pub record HighestOn (x r : ℕ) : Type 0 where
  pub within : r < 64
  pub on : On x r
  pub above : (k : ℕ) → r < k → ¬ On x k

-- r has bit k and the bits of x; where x has it not, r is the greater number
pub record With (x k r : ℕ) : Type 0 where
  pub exactly : (j : ℕ) → On r j ↔ (On x j ⊎ (j ≡ k))
  pub more : ¬ On x k → x < r

-- r has the bits of x but k; where x has it, r is the lesser number
pub record Without (x k r : ℕ) : Type 0 where
  pub exactly : (j : ℕ) → On r j ↔ (On x j × (j ≢ k))
  pub less : On x k → r < x
