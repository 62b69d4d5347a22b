-- Bits counted one by one, and by the machine.
use mathlib.Core.Path.{◌≡◌, refl, sym, ◌∙◌, ap, subst}
use Prim.Native.Nat.{ℕ, zero, suc, ◌+◌, ◌*◌, ◌/◌, ◌%◌, ◌^◌, ◌≤◌, ◌<◌}
use mathlib.Core.Logic.{◌⊎◌, inl, inr}
use native.Mathlib.Nat.{mod-lt, mod-eq_of_lt, eq-or-lt_of_le}
use native.Mathlib.Omega.{arith}
use lib.Count.{ones, ones_cat, ones-le}
use lib.Pow.{pow_pos, pow-lt, mod-pow-add}
use Rattle.bits.specs.Words.{On}
use Rattle.bits.specs.Counts.{bits_below}

-- one digit more
ones_digit : (d : ℕ) → d < 2 → ones d ≡ d
unfolding ones
ones_digit zero l = refl
ones_digit (suc zero) l = refl
ones_digit (suc (suc d)) l = absurd (omega arith)

ones_below : (x k : ℕ) → ones (x % 2 ^ k) ≡ bits_below x k
unfolding ones bits_below
ones_below x zero = let e : x % 2 ^ 0 ≡ 0 = omega arith in ap ones e
ones_below x (suc k) =
    let e : 1 + k ≡ suc k = omega arith in
    let f = subst (λ (n : ℕ). x % 2 ^ n ≡ (x / 2 ^ k % 2) * 2 ^ k + x % 2 ^ k) e (mod-pow-add x 1 k) in
    let g = ap ones f ∙ ones_cat k (x / 2 ^ k % 2) (x % 2 ^ k) (mod-lt x (pow_pos k)) in
    let h = ones_digit (x / 2 ^ k % 2) (mod-lt (x / 2 ^ k) (omega arith)) in
    let i = ones_below x k in
    omega arith

pub count_word : (x : ℕ) → x < 2 ^ 64 → ones x ≡ bits_below x 64
count_word x l = ap ones (sym (mod-eq_of_lt l)) ∙ ones_below x 64

pub count_part : (x k : ℕ) → k < 64 → bits_below (x % 2 ^ k) 64 ≡ bits_below x k
count_part x k l = let m = mod-lt x (pow_pos k) in let p = pow-lt {i = k} {j = 64} l in sym (count_word (x % 2 ^ k) (omega arith)) ∙ ones_below x k

pub count_few : (x : ℕ) → x < 2 ^ 64 → ones x ≤ 64
count_few x l = ones-le 64 x l

-- a bit that is set counts, and another does not
pub bit_counted : (x k : ℕ) → On x k → bits_below x (suc k) ≡ bits_below x k + 1
unfolding bits_below
bit_counted x k on = omega arith

pub bit_uncounted : (x k : ℕ) → ¬ On x k → bits_below x (suc k) ≡ bits_below x k
unfolding bits_below
bit_uncounted x k off = let e = none (x / 2 ^ k % 2) (mod-lt (x / 2 ^ k) (omega arith)) off in omega arith
  where
    none : (d : ℕ) → d < 2 → ¬ (d ≡ 1) → d ≡ 0
    none zero l n = refl
    none (suc zero) l n = absurd (n refl)
    none (suc (suc d)) l n = absurd (omega arith)

-- no more bits than places; and where x has no bit that y lacks, no more than y has, and fewer where it lacks one
pub bits_few : (x k : ℕ) → bits_below x k ≤ k
unfolding bits_below
bits_few x zero = omega arith
bits_few x (suc k) = let h = bits_few x k in let d : x / 2 ^ k % 2 < 2 = mod-lt (x / 2 ^ k) (omega arith) in omega arith

below_suc : (i k : ℕ) → i < suc k → (i ≡ k) ⊎ (i < k)
below_suc i k h = eq-or-lt_of_le (omega (arith, h))

digit_le : (a b : ℕ) → a < 2 → (a ≡ 1 → b ≡ 1) → a ≤ b
digit_le zero b l f = omega arith
digit_le (suc zero) b l f = let e = f refl in omega arith
digit_le (suc (suc a)) b l f = absurd (omega arith)

digit_lt : (a b : ℕ) → a < 2 → b ≡ 1 → ¬ (a ≡ 1) → a < b
digit_lt zero b l e n = omega arith
digit_lt (suc zero) b l e n = absurd (n refl)
digit_lt (suc (suc a)) b l e n = absurd (omega arith)

pub bits_lt : (x y k : ℕ) → ((j : ℕ) → j < k → On x j → On y j) → (bits_below x k ≤ bits_below y k) × ((i : ℕ) → i < k → On y i → ¬ On x i → bits_below x k < bits_below y k)
unfolding bits_below
bits_lt x y zero f = (omega arith, λ i h. absurd (omega (arith, h)))
bits_lt x y (suc k) f =
    let H = bits_lt x y k (λ j h. f j (omega (arith, h))) in
    let d = digit_le (x / 2 ^ k % 2) (y / 2 ^ k % 2) (mod-lt (x / 2 ^ k) (omega arith)) (f k (omega arith)) in
    let a = H.0 in
    (omega arith, λ i h on off. elim (below_suc i k h) [ inl e ↦ top i e a on off | inr l ↦ let b = H.1 i l on off in omega arith ])
  where
    top : (i : ℕ) → i ≡ k → bits_below x k ≤ bits_below y k → On y i → ¬ On x i → bits_below x k + x / 2 ^ k % 2 < bits_below y k + y / 2 ^ k % 2
    top i e a on off =
        let d = digit_lt (x / 2 ^ k % 2) (y / 2 ^ k % 2) (mod-lt (x / 2 ^ k) (omega arith)) (subst (On y) e on) (λ o. off (subst (On x) (sym e) o)) in
        omega arith
