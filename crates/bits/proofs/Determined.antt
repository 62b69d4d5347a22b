-- One answer: what the contracts of this crate say of an answer determines it. (Sets: `one_set` in Members; tables: `table_one`,
-- `gains_one` in Gains, `ones_one` in Ones; words that are said by their bits: `same_word` in Members.)
use mathlib.Core.Path.{◌≡◌, refl}
use mathlib.Core.Logic.{◌↔◌}
use mathlib.Core.Bool.{Bool, true, false, false≢true}
use mathlib.Core.List.{List}
use Prim.Native.Nat.{ℕ, ◌*◌, ◌<◌}
use native.Mathlib.Nat.{le_refl}
use native.Mathlib.Omega.{arith}
use Rattle.bits.specs.declared.sets.Set.{Set}
use Rattle.bits.specs.Bits.{HighestByte}
use Rattle.bits.specs.Words.{LowestOn, HighestOn, With, Without}
use Rattle.bits.specs.First.{First, Split}
use Rattle.bits.specs.Packed.{Packed}
use Rattle.bits.specs.Sets.{Members, SetFits, Last}
use Rattle.bits.proofs.Words.{bit_below}
use Rattle.bits.proofs.Members.{same_word, one_set}

-- two numbers of which neither is lower
neither : (r t : ℕ) → ¬ (r < t) → ¬ (t < r) → r ≡ t
neither r t f g = omega arith

pub lowest_one : {x r t : ℕ} → LowestOn x r → LowestOn x t → r ≡ t
lowest_one {x} {r} {t} L M = neither r t (λ h. M.below r h L.on) (λ h. L.below t h M.on)

pub highest_one : {x r t : ℕ} → HighestOn x r → HighestOn x t → r ≡ t
highest_one {x} {r} {t} L M = neither r t (λ h. L.above t h M.on) (λ h. M.above r h L.on)

pub last_one : {s : Set} {r t : ℕ} → Last s r → Last s t → r ≡ t
last_one {s} {r} {t} L M = neither r t (λ h. L.above t h M.has) (λ h. M.above r h L.has)

pub first_one : {P : ℕ → Type 0} {a n r t : ℕ} → First P a n r → First P a n t → r ≡ t
first_one {P} {a} {n} {r} {t} F G = neither r t (lower F G) (lower G F)
  where
    lower : {x y : ℕ} → First P a n x → First P a n y → ¬ (x < y)
    lower {x} A B h = B.before x A.from h (A.holds (omega (arith, h, B.within)))

pub split_one : {P : ℕ → Type 0} {n r t : ℕ} → Split P n r → Split P n t → r ≡ t
split_one {P} {n} {r} {t} S T = neither r t (lower S T) (lower T S)
  where
    lower : {x y : ℕ} → Split P n x → Split P n y → ¬ (x < y)
    lower {x} A B h = A.above x (le_refl x) (omega (arith, h, B.within)) (B.below x h)

pub highest_byte_one : {bytes : List ℕ} {r t : ℕ} → HighestByte bytes r → HighestByte bytes t → r ≡ t
highest_byte_one {bytes} {r} {t} H K = neither r t (lower H K) (lower K H)
  where
    lower : {x y : ℕ} → HighestByte bytes x → HighestByte bytes y → ¬ (x < y)
    lower A B h = let (i, l, e) = B.is_byte (omega (arith, h)) in omega (arith, h, e, A.above i)

-- words by their bits
pub with_one : {x k r t : ℕ} → With x k r → With x k t → r ≡ t
with_one {r = r} {t} W X = same_word r t (λ j. ((λ h. (X.exactly j).1 ((W.exactly j).0 h)), (λ h. (W.exactly j).1 ((X.exactly j).0 h))))

pub without_one : {x k r t : ℕ} → Without x k r → Without x k t → r ≡ t
without_one {r = r} {t} W X = same_word r t (λ j. ((λ h. (X.exactly j).1 ((W.exactly j).0 h)), (λ h. (W.exactly j).1 ((X.exactly j).0 h))))

pub packed_same : {s : List ℕ} {at n r t : ℕ} → Packed s at n r → Packed s at n t → r ≡ t
packed_same {n = n} {r} {t} P Q = same_word r t (λ j. (
  (λ h. let l = bit_below (8 * n) r j P.below h in (Q.exactly j l).1 ((P.exactly j l).0 h)),
  (λ h. let l = bit_below (8 * n) t j Q.below h in (P.exactly j l).1 ((Q.exactly j l).0 h)),
))

-- sets by their members
pub members_one : {P : ℕ → Type 0} {s t : Set} → SetFits s → SetFits t → Members P s → Members P t → s ≡ t
members_one {s = s} {t} F G M N = one_set s t F G (λ w. (
  (λ h. (N.exactly w h.below).1 ((M.exactly w h.below).0 h)),
  (λ h. (M.exactly w h.below).1 ((N.exactly w h.below).0 h)),
))

-- tests
pub test_one : {P : Type 0} (a b : Bool) → (a ≡ true) ↔ P → (b ≡ true) ↔ P → a ≡ b
test_one true true f g = refl
test_one true false f g = absurd (false≢true (g.1 (f.0 refl)))
test_one false true f g = absurd (false≢true (f.1 (g.0 refl)))
test_one false false f g = refl
