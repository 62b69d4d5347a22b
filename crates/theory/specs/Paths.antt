-- Paths over an edge relation on vertices (001, section 3: a path is a finite or infinite sequence of transitions).
use Rattle.std.specs.Prelude.{◌≡◌, ◌≢◌, ℕ, suc}

-- E u w: a transition leads from u to w
abbrev pub Edges : Type 1
Edges = ℕ → ℕ → Type 0

-- a finite path, of no transition or more
pub data Star (E : Edges) : ℕ → ℕ → Type 0 where
  here : {u : ℕ} → Star E u u
  step : {u w x : ℕ} → E u w → Star E w x → Star E u x

-- a finite path of one transition or more
pub data Plus (E : Edges) : ℕ → ℕ → Type 0 where
  last : {u w : ℕ} → E u w → Plus E u w
  more : {u w x : ℕ} → E u w → Plus E w x → Plus E u x

-- an infinite path from v
pub record Endless (E : Edges) (v : ℕ) : Type 0 where
  pub at : ℕ → ℕ
  pub first : at 0 ≡ v
  pub next : (k : ℕ) → E (at k) (at (suc k))

-- every infinite path from v returns to v after a positive number of transitions
abbrev pub Returns : Edges → ℕ → Type 0
Returns E v = (p : Endless E v) → (k : ℕ) × (p.at (suc k) ≡ v)

-- the transitions of E that do not leave v
abbrev pub Avoid : ℕ → Edges → Edges
Avoid v E u w = (u ≢ v) × E u w

-- a cycle, reached from v, that does not go through v
abbrev pub Straying : Edges → ℕ → Type 0
Straying E v = (w : ℕ) × Star E v w × Plus (Avoid v E) w w
