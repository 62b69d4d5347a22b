-- Bytes that follow each other as one word: of twice as many, those of the second half stand above those of the first.
use mathlib.Core.Path.{◌≡◌, refl, sym, ap, ◌∙◌, subst}
use mathlib.Core.Logic.{◌↔◌, by_cases}
use mathlib.Core.List.{List}
use Prim.Native.Nat.{ℕ, suc, ◌+◌, ◌-◌, ◌*◌, ◌/◌, ◌%◌, ◌^◌, ◌<◌}
use native.Mathlib.Decide.{dec_lt}
use native.Mathlib.Omega.{arith}
use lib.ListN.{get_or}
use Rattle.std.specs.Int.{bit_at}
use Rattle.std.proofs.lemmas.Nat.Bits.{bit_at_cat_low, bit_at_cat_high}
use Rattle.bits.specs.Words.{On}
use Rattle.bits.specs.Packed.{four_at, Packed}

-- the bits of x, and those of y above them
pub stacked_low : (x y j d : ℕ) → On (x + 2 ^ (j + suc d) * y) j ↔ On x j
stacked_low x y j d =
    let e : x + 2 ^ (j + suc d) * y ≡ y * 2 ^ (j + suc d) + x = omega arith in
    let f = bit_at_cat_low y (j + suc d) x j (omega arith) in
    rw (e, f) ((λ h. h), (λ h. h))

pub stacked_high : (x y k i : ℕ) → x < 2 ^ k → On (x + 2 ^ k * y) (k + i) ↔ On y i
stacked_high x y k i l =
    let e : x + 2 ^ k * y ≡ y * 2 ^ k + x = omega arith in
    let g : k + i - k ≡ i = omega arith in
    let f = bit_at_cat_high y k x (k + i) l (omega arith) ∙ ap (bit_at y) g in
    rw (e, f) ((λ h. h), (λ h. h))

pub packed_one : {s : List ℕ} {at r : ℕ} → r ≡ get_or s at 0 → r < 256 → Packed s at 1 r
packed_one {s} {at} {r} e l = record { below = l; exactly = λ j h. let f : at + j / 8 ≡ at = omega arith in let g : j % 8 ≡ j = omega arith in ((λ on. rw (f, g, ← e) on), (λ on. rw (f, g, ← e) at on)) }

pub packed_twice : {s : List ℕ} {at n x y : ℕ} → x + 2 ^ (8 * n) * y < 2 ^ (8 * (n + n)) → Packed s at n x → Packed s (at + n) n y → Packed s at (n + n) (x + 2 ^ (8 * n) * y)
packed_twice {s} {at} {n} {x} {y} b X Y = record { below = b; exactly = λ j h. by_cases (dec_lt j (8 * n)) (low j) (high j h) }
  where
    low : (j : ℕ) → j < 8 * n → On (x + 2 ^ (8 * n) * y) j ↔ On (get_or s (at + j / 8) 0) (j % 8)
    low j l =
        let e : 8 * n ≡ j + suc (8 * n - j - 1) = omega arith in
        let S = subst (λ (k : ℕ). On (x + 2 ^ k * y) j ↔ On x j) (sym e) (stacked_low x y j (8 * n - j - 1)) in
        ((λ on. (X.exactly j l).0 (S.0 on)), (λ on. S.1 ((X.exactly j l).1 on)))

    high : (j : ℕ) → j < 8 * (n + n) → ¬ (j < 8 * n) → On (x + 2 ^ (8 * n) * y) j ↔ On (get_or s (at + j / 8) 0) (j % 8)
    high j h l =
        let e : 8 * n + (j - 8 * n) ≡ j = omega arith in
        let f : at + n + (j - 8 * n) / 8 ≡ at + j / 8 = omega arith in
        let g : (j - 8 * n) % 8 ≡ j % 8 = omega arith in
        let S = subst (λ (k : ℕ). On (x + 2 ^ (8 * n) * y) k ↔ On y (j - 8 * n)) e (stacked_high x y (8 * n) (j - 8 * n) X.below) in
        let P = Y.exactly (j - 8 * n) (omega arith) in
        ((λ on. rw (f, g) at (P.0 (S.0 on))), (λ on. S.1 (P.1 (rw (f, g) on))))

-- four bytes, as the number that they make
pub packed_four : (s : List ℕ) (at r : ℕ) → ((k : ℕ) → k < 4 → get_or s (at + k) 0 < 256) → r ≡ four_at s at → Packed s at 4 r
packed_four s at r B e =
    let z : at + 0 ≡ at = omega arith in
    let a : get_or s at 0 < 256 = rw z at (B 0 (omega arith)) in let b = B 1 (omega arith) in let c = B 2 (omega arith) in let d = B 3 (omega arith) in
    let f : at + 2 + 1 ≡ at + 3 = omega arith in
    let low = packed_twice {s = s} {at = at} {n = 1} {x = get_or s at 0} {y = get_or s (at + 1) 0} (omega arith) (packed_one refl a) (packed_one refl b) in
    let high = packed_twice {s = s} {at = at + 2} {n = 1} {x = get_or s (at + 2) 0} {y = get_or s (at + 3) 0} (omega arith) (packed_one refl c) (packed_one (ap (λ (i : ℕ). get_or s i 0) (sym f)) d) in
    let w = packed_twice {n = 2} (omega arith) low high in
    let g : get_or s at 0 + 256 * get_or s (at + 1) 0 + 65536 * (get_or s (at + 2) 0 + 256 * get_or s (at + 3) 0) ≡ r = omega arith in
    subst (Packed s at 4) g w
