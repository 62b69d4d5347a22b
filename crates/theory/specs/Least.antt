-- The lowest number with a property, and the first pair with one.
use Rattle.std.specs.Prelude.{◌≡◌, ◌⊎◌, ℕ, ◌<◌}

pub record Least (P : ℕ → Type 0) (p : ℕ) : Type 0 where
  pub holds : P p
  pub lowest : (k : ℕ) → k < p → ¬ P k

-- pairs in order: by the first number, then by the second
abbrev pub Earlier : ℕ → ℕ → ℕ → ℕ → Type 0
Earlier a b u v = (a < u) ⊎ ((a ≡ u) × (b < v))

pub record FirstPair (P : ℕ → ℕ → Type 0) (u v : ℕ) : Type 0 where
  pub holds : P u v
  pub earlier : (a b : ℕ) → Earlier a b u v → ¬ P a b
