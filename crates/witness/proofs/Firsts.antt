-- The first vertex with a property, and the next level.
use mathlib.Core.Path.{◌≡◌}
use mathlib.Core.Logic.{by_cases, ◌↔◌}
use mathlib.Core.List.{List}
use Prim.Native.Nat.{ℕ, ◌+◌, ◌-◌, ◌*◌, ◌/◌, ◌%◌, ◌≤◌, ◌<◌}
use native.Mathlib.Decide.{dec_lt}
use native.Mathlib.Omega.{arith}
use lib.ListN.{get_or}
use Rattle.bits.specs.First.{First}
use Rattle.bits.specs.Words.{On}
use Rattle.bits.proofs.Gains.{has_row}
use Rattle.witness.specs.Given.{IsLevel}

module _ {P : ℕ → Type 0} {i : ℕ} (none : (k : ℕ) → k < i → ¬ P k) {n : ℕ} where
  pub first_here : i < n → P i → First P 0 n i
  first_here l p = record { from = omega arith; within = omega arith; holds = λ h. p; before = λ k a. none k }

  pub first_none : i ≡ n → First P 0 n i
  first_none e = record { from = omega arith; within = omega arith; holds = λ h. absurd (omega arith); before = λ k a. none k }

-- the same numbers, said in another way
pub first_as : {P Q : ℕ → Type 0} {a n r : ℕ} → ((w : ℕ) → w < n → P w ↔ Q w) → First P a n r → First Q a n r
first_as {r = r} f F = record {
  from = F.from;
  within = F.within;
  holds = λ h. (f r h).0 (F.holds h);
  before = λ k a h q. F.before k a h ((f k (omega (arith, F.within))).1 q);
}

-- THE NEXT LEVEL
same_bit : (a : List ℕ) {i j k m : ℕ} → i ≡ j → k ≡ m → On (get_or a i 0) k ↔ On (get_or a j 0) m
same_bit a e f = rw (e, f) (λ h. h, λ h. h)

level_word : (a : List ℕ) (l : ℕ) → IsLevel a l ↔ On (get_or a (l / 64) 0) (l % 64)
level_word a l =
    let r = has_row a (l / 128) (l % 128) (omega arith) in
    let s = same_bit a {i = 2 * (l / 128) + l % 128 / 64} {j = l / 64} {k = l % 128 % 64} {m = l % 64} (omega arith) (omega arith) in
    (λ h. s.0 (r.0 h), λ h. r.1 (s.1 h))

-- none from `from` up to word k is one; that word has at `bit` the lowest bit from there on
module _ (a : List ℕ) {from : ℕ} (w : ℕ) {bit : ℕ} (none : (k : ℕ) → from ≤ k → k < 64 * w → ¬ IsLevel a k)
    (F : First (On (get_or a w 0)) (from - 64 * w) 64 bit) where
  pub level_past : (k : ℕ) → from ≤ k → k < 64 * w + bit → ¬ IsLevel a k
  level_past k g h q =
      by_cases (dec_lt k (64 * w))
      (λ m. none k g m q)
      (λ m.
      let e : k / 64 ≡ w = omega (arith, F.within) in
      F.before (k % 64) (omega arith) (omega arith) (rw e at ((level_word a k).0 q)))

  pub level_found : from < 64 * w + 64 → w < 4 → bit < 64 → First (IsLevel a) from 256 (64 * w + bit)
  level_found g h m =
      let e : (64 * w + bit) / 64 ≡ w = omega arith in
      let f : (64 * w + bit) % 64 ≡ bit = omega arith in
      record {
        from = omega (arith, F.from);
        within = omega arith;
        holds = λ z. (level_word a (64 * w + bit)).1 (rw (e, f) (F.holds m));
        before = level_past;
      }

pub level_none : (a : List ℕ) {from : ℕ} → ((k : ℕ) → from ≤ k → k < 256 → ¬ IsLevel a k) → from ≤ 256 → First (IsLevel a) from 256 256
level_none a none g = record { from = g; within = omega arith; holds = λ z. absurd (omega arith); before = none }
