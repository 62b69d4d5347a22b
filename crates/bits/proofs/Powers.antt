-- What the bits of a byte are worth, and sets that end.
use mathlib.Core.Path.{◌≡◌, refl, ◌∙◌}
use mathlib.Core.Bool.{false}
use mathlib.Core.List.{List, [], ◌∷◌, map}
use Prim.Native.Nat.{ℕ, zero, suc, ◌*◌, ◌/◌, ◌%◌, ◌^◌, ◌≤◌, ◌<◌}
use native.Mathlib.Nat.{pow-suc, zero-div}
use native.Mathlib.Omega.{arith}
use lib.ListN.{length, get_or, get_or-map, get_or-eq_default}
use Rattle.bits.specs.Bits.{has_bit}

-- the first n powers of two: 1, then twice each of the others
unfoldable pub powers : ℕ → List ℕ
powers zero = []
powers (suc n) = 1 ∷ map (λ x. x * 2) (powers n)

-- entry i of them, from 0, is 2^i
pub power_at : (n i : ℕ) → i < n → get_or (powers n) i 0 ≡ 2 ^ i
unfolding powers
power_at zero i h = absurd (omega (arith, h))
power_at (suc n) zero h = refl
power_at (suc n) (suc i) h = get_or-map (λ x. x * 2) (powers n) i 0 ∙ rw (power_at n i (omega (arith, h)), pow-suc 2 i)

-- past the last byte nothing is in the set
pub has_past : (s : List ℕ) (v : ℕ) → length s ≤ v / 8 → has_bit s v ≡ false
has_past s v h = rw (get_or-eq_default s 0 {n = v / 8} h, zero-div (2 ^ (v % 8)))
