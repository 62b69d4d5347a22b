-- The transitions that leave a vertex, and where those of each vertex begin.
use Rattle.std.specs.Prelude.{ℕ, zero, suc, ◌+◌, ◌*◌, ◌≤◌, ◌<◌, ◌≡◌, List, [], ◌++◌, cond, length, get_or, take, drop, eqb, Result, Ok, Err}
use Rattle.report.specs.declared.Refusal.{Refusal}
use Rattle.bits.specs.First.{Split}
use Rattle.bits.specs.declared.Span.{Span}
use Rattle.chart.specs.Bodies.{count_of, from_of}
use Rattle.chart.specs.Checks.{check_of}

-- the four bytes of transition i
abbrev pub bytes_of : List ℕ → ℕ → List ℕ
bytes_of b i = take 4 (drop (4 * i + 4) b)

-- of the n transitions from i on, those that leave v
unfoldable pub leaving_at : List ℕ → ℕ → ℕ → ℕ → List ℕ
leaving_at b v i zero = []
leaving_at b v i (suc n) = cond (eqb (from_of b i) v) (bytes_of b i ++ leaving_at b v (suc i) n) (leaving_at b v (suc i) n)

abbrev pub when_passed : {A : Type 0} → Result Unit Refusal → A → A → A
when_passed (Ok tt) a z = a
when_passed (Err p) a z = z

-- nothing where 20 or 21 refuses the body
unfoldable pub leaving_of : List ℕ → ℕ → List ℕ
leaving_of b v = when_passed (check_of b) (leaving_at b v 0 (count_of b)) []

-- transition i leaves a vertex below v
pub record FromBelow (b : List ℕ) (v i : ℕ) : Type 0 where
  pub is : from_of b i < v

-- the transitions of v stand from the first index of the span up to the second
pub record RangeOf (b : List ℕ) (v : ℕ) (r : Span) : Type 0 where
  pub begins : Split (FromBelow b v) (count_of b) r.from
  pub ends : Split (FromBelow b (v + 1)) (count_of b) r.to

-- of some vertex
abbrev pub OneRange : List ℕ → Span → Type 0
OneRange b r = (v : ℕ) × RangeOf b v r

-- a place of a body of n transitions that passes, not past those of v
pub record NotPast (b : List ℕ) (n v at : ℕ) : Type 0 where
  pub passed : check_of b ≡ Ok tt
  pub many : n ≡ count_of b
  pub within : at ≤ n
  pub below : (i : ℕ) → i < at → from_of b i < v

-- entry v of r is the number of transitions whose from is below v: where those of v begin
pub record Begins (b r : List ℕ) : Type 0 where
  pub long : length r ≡ 129
  pub split : (v : ℕ) → v ≤ 128 → Split (FromBelow b v) (count_of b) (get_or r v 0)
