-- A chart given by the list of its transitions.
use Rattle.std.specs.Prelude.{◌≡◌, ◌⊎◌, Bool, ◌&&◌, ◌||◌, ℕ, ◌<◌, eqb, ltb}
use mathlib.Core.List.{List, Memᴰ}
use Rattle.theory.specs.Systems.{System}

-- from, action, to
abbrev pub Transition : Type 0
Transition = ℕ × ℕ × ℕ

-- by from, then action, then to: as a statement, and tested
abbrev pub Precedes : Transition → Transition → Type 0
Precedes x y = (x.0 < y.0) ⊎ ((x.0 ≡ y.0) × ((x.1 < y.1) ⊎ ((x.1 ≡ y.1) × (x.2 < y.2))))

unfoldable pub precedes : Transition → Transition → Bool
precedes x y =
    ltb x.0 y.0 || (eqb x.0 y.0 && (ltb x.1 y.1 || (eqb x.1 y.1 && ltb x.2 y.2)))

-- the chart with this start and these steps; vertex 0 is the end
abbrev pub chart_by : ℕ → (ℕ → ℕ → ℕ → Type 0) → System
chart_by start S = record { State = ℕ; start = start; End = λ v. v ≡ 0; Step = S }

abbrev pub chart : ℕ → List Transition → System
chart start ts = chart_by start (λ u a w. Memᴰ (u, a, w) ts)
