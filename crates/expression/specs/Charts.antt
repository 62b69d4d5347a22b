-- What is promised of the chart of an expression that passes.
use Rattle.std.specs.Prelude.{ℕ, suc, ◌-◌, ◌<◌, ◌≤◌, ◌≡◌, length}
use mathlib.Core.List.{List, Memᴰ}
use Rattle.theory.specs.Ascending.{Ascending}
use Rattle.theory.specs.Transitions.{Transition, precedes}
use Rattle.theory.specs.Expressions.{Target, Step}
use Rattle.theory.specs.Nodes.{expr, residual, meaning}
use Rattle.expression.specs.Table.{node, count}

-- these are the transitions of the chart of the expression s: from each vertex, reached or not, exactly the steps
-- that 001's rules derive for its residual, equal ones once, and each field in its range
pub record IsChart (s : List ℕ) (ts : List Transition) : Type 0 where
  pub nodes : (1 ≤ count s) × (count s ≤ 127)
  pub ascend : Ascending precedes ts
  pub few : length ts ≤ 8192
  pub fits : (x : Transition) → Memᴰ x ts → (1 ≤ x.0) × (x.0 ≤ count s) × (1 ≤ x.1) × (x.2 ≤ count s)
  pub steps : (k a t : ℕ) → Memᴰ (suc k, a, t) ts
      → (k < count s) × Step (residual (node s) (count s) k) a (meaning (node s) (count s) t)
  pub all : (k : ℕ) → k < count s → {a : ℕ} {ξ : Target} → Step (residual (node s) (count s) k) a ξ
      → (t : ℕ) × Memᴰ (suc k, a, t) ts × (meaning (node s) (count s) t ≡ ξ)
  pub start : residual (node s) (count s) (count s - 1) ≡ expr (node s) (count s - 1)
