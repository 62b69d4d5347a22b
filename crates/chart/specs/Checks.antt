-- The refusals 20 and 21 as tests that run.
use Rattle.std.specs.Prelude.{ℕ, zero, suc, ◌+◌, ◌*◌, List, Bool, true, false, cond, ◌||◌, length, ltb, leb, eqb, Result, Ok, Err}
use Rattle.report.specs.declared.Refusal.{Refusal}
use Rattle.report.specs.declared.Refusal.TheVariants.{ChartHeader, Transition}
use Rattle.chart.specs.Bodies.{vertices_of, start_of, count_of, from_of, action_of, to_of, pad_of, key_of}

infixl 30 ◌and◌
-- shut by default, so that a proof can name its two sides by _
unfoldable pub ◌and◌ : Bool → Bool → Bool
true and b = b
false and b = false

unfoldable pub header_ok : List ℕ → Bool
header_ok b =
    leb 4 (length b)
    and (leb 2 (vertices_of b)
    and leb (vertices_of b) 128
    and leb 1 (start_of b)
    and ltb (start_of b) (vertices_of b)
    and leb (count_of b) 8192
    and eqb (length b) (4 + 4 * count_of b))

-- a transition by itself
unfoldable pub fits_at : List ℕ → ℕ → Bool
fits_at b i =
    leb 1 (from_of b i)
    and ltb (from_of b i) (vertices_of b)
    and leb 1 (action_of b i)
    and ltb (to_of b i) (vertices_of b)
    and eqb (pad_of b i) 0

-- a transition and the one before it; the first has none
unfoldable pub above_at : List ℕ → ℕ → Bool
above_at b i = eqb i 0 || ltb (key_of b (4 * i)) (key_of b (4 * i + 4))

unfoldable pub ok_at : List ℕ → ℕ → Bool
ok_at b i = fits_at b i and above_at b i

-- the lowest bad transition among the n from i on
unfoldable pub first_bad : List ℕ → ℕ → ℕ → Result Unit Refusal
first_bad b i zero = Ok tt
first_bad b i (suc n) = cond (ok_at b i) (first_bad b (suc i) n) (Err (Transition i))

unfoldable pub check_of : List ℕ → Result Unit Refusal
check_of b = cond (header_ok b) (first_bad b 0 (count_of b)) (Err ChartHeader)
