-- The first number with a property, and the place where a run of numbers parts.
use Rattle.std.specs.Prelude.{ℕ, ◌≤◌, ◌<◌}

-- r is the first number from a on, below n, with P, or n where there is none
pub record First (P : ℕ → Type 0) (a n r : ℕ) : Type 0 where
  pub from : a ≤ r
  pub within : r ≤ n
  pub holds : r < n → P r
  pub before : (k : ℕ) → a ≤ k → k < r → ¬ P k

-- the numbers below r have P, and those from r on, below n, have not
pub record Split (P : ℕ → Type 0) (n r : ℕ) : Type 0 where
  pub within : r ≤ n
  pub below : (i : ℕ) → i < r → P i
  pub above : (i : ℕ) → r ≤ i → i < n → ¬ P i
