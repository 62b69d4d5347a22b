-- The highest of some bytes.
use Prim.Native.Nat.{ℕ, max, ◌+◌, ◌≤◌, ◌<◌}
use mathlib.Core.Path.{◌≡◌}
use mathlib.Core.Logic.{by_cases}
use mathlib.Core.List.{List}
use native.Mathlib.Decide.{dec_lt}
use native.Mathlib.Omega.{arith}
use lib.ListN.{length, get_or, get_or-eq_default}
use borrow.Author.Count.{below_more}
use Rattle.bits.specs.Bits.{HighestByte}

-- the highest of the first i bytes, of none, and of one more
pub record HighestTo (bytes : List ℕ) (i top : ℕ) : Type 0 where
  pub above : (j : ℕ) → j < i → get_or bytes j 0 ≤ top
  pub is_byte : 0 < top → (j : ℕ) × (j < i) × (get_or bytes j 0 ≡ top)

pub highest_none : (bytes : List ℕ) → HighestTo bytes 0 0
highest_none bytes = record { above = λ j h. absurd (omega (arith, h)); is_byte = λ h. absurd (omega (arith, h)) }

pub highest_more : {bytes : List ℕ} {i top r : ℕ} → HighestTo bytes i top → r ≡ max top (get_or bytes i 0) → HighestTo bytes (i + 1) r
highest_more {bytes} {i} {top} {r} H e = record {
  above = below_more (λ (j : ℕ). get_or bytes j 0 ≤ r) i (λ j h. let k = H.above j h in omega (arith, e, k)) (omega (arith, e));
  is_byte =
      λ some. by_cases (dec_lt top (get_or bytes i 0)) (λ g. (i, omega arith, omega (arith, e, g)))
      (λ g. let (j, l, q) = H.is_byte (omega (arith, e, g, some)) in (j, omega arith, omega (arith, e, g, q)));
}

pub highest_all : {bytes : List ℕ} {i top : ℕ} → HighestTo bytes i top → i ≡ length bytes → HighestByte bytes top
highest_all {bytes} {i} {top} H e = record {
  above = λ j. by_cases (dec_lt j i) (H.above j) (λ g. omega (arith, get_or-eq_default bytes 0 {n = j} (omega (arith, e, g))));
  is_byte = λ some. let (j, l, q) = H.is_byte some in (j, omega (arith, e, l), q);
}
