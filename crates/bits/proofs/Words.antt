-- The bits of words: what each operation on words does to them.
use mathlib.Core.Path.{◌≡◌, refl, sym, ap, ◌∙◌, subst}
use mathlib.Core.Logic.{◌≢◌, ◌⊎◌, inl, inr, ◌↔◌, by_cases}
use mathlib.Core.Bool.{Bool, true, false, not, false≢true}
use Prim.Native.Nat.{ℕ, zero, suc, max, ◌+◌, ◌-◌, ◌*◌, ◌/◌, ◌%◌, ◌^◌, ◌≤◌, ◌<◌}
use native.Mathlib.Nat.{zero-div}
use native.Mathlib.Nat.{pow-suc, eq-or-lt_of_le, div-eq_of_lt-le}
use native.Mathlib.Decide.{dec_lt, ℕ_discrete}
use native.Mathlib.Omega.{arith}
use lib.Dec.{eqb}
use lib.Pow.{pow_pos, shr-shr}
use lib.Bits.{bit_and, bit_or}
use lib.Count.{count_leading_zeros, leading_top}
use borrow.Author.Tests.{eq-eqb, eqb-true}
use Rattle.std.specs.Int.{w64, bit_not, bit_at, trailing_zeros}
use Rattle.std.proofs.lemmas.Nat.Bits.{bit_at-lt, bit_at-zero, bit_at_lowest, bit_at-suc, bit_at_and, bit_at_or, bit_at_not}
use Rattle.std.proofs.lemmas.Nat.Bits.{bit_at-pow_same, bit_at-pow_other, bit_at_ones, bit_at_ones_above, bit_at_above}
use Rattle.std.proofs.lemmas.Nat.Bits.{bit_at-trailing_zeros, same_from_bits, same_from_bits_below}
use Rattle.std.proofs.lemmas.Nat.{one_shl, le_or_l}
use Rattle.bits.specs.Words.{On, LowestOn, HighestOn, With, Without}
use Rattle.bits.specs.First.{First}

-- the digit of x at k
abbrev pub digit : ℕ → ℕ → ℕ
digit x k = bit_at x k

pub both_on : (x y j : ℕ) → On (bit_and x y) j ↔ (On x j × On y j)
both_on x y j =
    let e = bit_at_and x y j in let p = bit_at-lt x j in let q = bit_at-lt y j in
    ((λ h. (omega (arith, e, p, q, h), omega (arith, e, p, q, h))), (λ h. omega (arith, e, h.0, h.1)))

pub either_on : (x y j : ℕ) → On (bit_or x y) j ↔ (On x j ⊎ On y j)
either_on x y j = ((λ h. one (digit x j) (digit y j) (bit_at-lt x j) (omega (arith, bit_at_or x y j, h))), back)
  where
    one : (p q : ℕ) → p < 2 → max p q ≡ 1 → (p ≡ 1) ⊎ (q ≡ 1)
    one zero q h e = inr (omega (arith, e))
    one (suc zero) q h e = inl refl
    one (suc (suc p)) q h e = inl (omega (arith, h))

    back : (On x j ⊎ On y j) → On (bit_or x y) j
    back (inl h) = omega (arith, bit_at_or x y j, bit_at-lt y j, h)
    back (inr h) = omega (arith, bit_at_or x y j, bit_at-lt x j, h)

-- a power of two has one bit
pow_on : (k j : ℕ) → On (2 ^ k) j → j ≡ k
pow_on k j h = by_cases (ℕ_discrete j k) (λ e. e) (λ n. omega (arith, bit_at-pow_other k j n, h))

on_pow : (k : ℕ) → On (2 ^ k) k
on_pow = bit_at-pow_same

-- one less than a power of two has the bits below it
pub below_on : (d j : ℕ) → On (2 ^ d - 1) j ↔ (j < d)
below_on d j = (
  (λ on. by_cases (dec_lt j d) (λ h. h) (λ n. omega (arith, bit_at_ones_above d j (omega (arith, n)), on))),
  bit_at_ones d j,
)

-- what has no bit beyond those of x is no greater
pub subset_le : (r x : ℕ) → ((k : ℕ) → On r k → On x k) → r ≤ x
subset_le r x f =
    let e : bit_or r x ≡ x = same_from_bits (bit_or r x) x (λ k. grind (arith, bit_at_or r x k, f k, bit_at-lt r k, bit_at-lt x k)) in
    omega (arith, le_or_l r x, e)

subset_lt : (r x k : ℕ) → ((j : ℕ) → On r j → On x j) → On x k → ¬ On r k → r < x
subset_lt r x k f on off = elim (eq-or-lt_of_le (subset_le r x f)) [ inl e ↦ absurd (off (ap (λ (y : ℕ). digit y k) e ∙ on)) | inr h ↦ h ]

pub with_law : (x k : ℕ) → With x k (bit_or x (2 ^ k))
with_law x k = record { exactly = exactly; more = λ off. subset_lt x (bit_or x (2 ^ k)) k (λ j on. (either_on x (2 ^ k) j).1 (inl on)) ((either_on x (2 ^ k) k).1 (inr (on_pow k))) off }
  where
    there : (j : ℕ) → (On x j ⊎ On (2 ^ k) j) → On x j ⊎ (j ≡ k)
    there j (inl on) = inl on
    there j (inr on) = inr (pow_on k j on)

    back : (j : ℕ) → (On x j ⊎ (j ≡ k)) → On x j ⊎ On (2 ^ k) j
    back j (inl on) = inl on
    back j (inr e) = inr (subst (λ (i : ℕ). On (2 ^ k) i) (sym e) (on_pow k))

    exactly : (j : ℕ) → On (bit_or x (2 ^ k)) j ↔ (On x j ⊎ (j ≡ k))
    exactly j = ((λ on. there j ((either_on x (2 ^ k) j).0 on)), (λ h. (either_on x (2 ^ k) j).1 (back j h)))

-- 1 moved up by k places, within a word
pub bit_worth : (k : ℕ) → k < 64 → (1 * 2 ^ k) % 18446744073709551616 ≡ 2 ^ k
bit_worth k h = one_shl k 64 h

-- no bit is set: the number is 0
pub no_bit : (d x : ℕ) → x < 2 ^ d → ((k : ℕ) → k < d → ¬ On x k) → x ≡ 0
no_bit d x h f = same_from_bits_below d x 0 h (pow_pos d) (λ k i. omega (arith, f k i, bit_at-lt x k, bit_at-zero k))

pub lowest_law : (x : ℕ) → x ≢ 0 → x < 2 ^ 64 → LowestOn x (trailing_zeros w64 x)
lowest_law x some h =
    let (within, on, below) = bit_at-trailing_zeros w64 x (omega (arith, some)) h in
    record { within = within; on = on; below = λ k l o. omega (arith, below k l, o) }

-- words with a bit in common: r has the bits of both, and is not 0
pub meet : (x y r : ℕ) → x < 2 ^ 64 → ((j : ℕ) → On r j ↔ (On x j × On y j)) → (not (eqb r 0) ≡ true) ↔ ((k : ℕ) × On x k × On y k)
meet x y r l R = go (eqb r 0) refl
  where
    go : (b : Bool) → eqb r 0 ≡ b → (not b ≡ true) ↔ ((k : ℕ) × On x k × On y k)
    go true e = ((λ f. absurd (false≢true f)), (λ (k, p, q). absurd (nothing k (eqb-true r 0 e) ((R k).1 (p, q)))))
      where
        nothing : (k : ℕ) → r ≡ 0 → ¬ On r k
        nothing k z on = let f : r / 2 ^ k ≡ 0 = rw z (zero-div (2 ^ k)) in let g : digit r k ≡ 0 = rw f in omega (arith, g, on)
    go false e = ((λ f. let L = lowest_law r (λ z. false≢true (sym e ∙ eq-eqb r 0 z)) (omega (arith, l, subset_le r x (λ k on. ((R k).0 on).0))) in let z = (R _).0 L.on in (_, z.0, z.1)), (λ h. refl))

-- a word and a power of two have only its bit in common
pub at_power : (x k : ℕ) → x < 2 ^ 64 → (not (eqb (bit_and x (2 ^ k)) 0) ≡ true) ↔ On x k
at_power x k l =
    let M = meet x (2 ^ k) (bit_and x (2 ^ k)) l (both_on x (2 ^ k)) in (
      (λ h. let (j, p, q) = M.0 h in subst (λ (i : ℕ). On x i) (pow_on k j q) p),
      (λ on. M.1 (k, on, on_pow k)),
    )

-- where k is the lowest bit of x, one less than x has the bits of x above k, and not k
lowered : (k x i : ℕ) → On x k → ((j : ℕ) → j < k → ¬ On x j) → (On x i × On (x - 1) i) ↔ (On x i × (i ≢ k))
lowered zero x i on f = odd i (bit_at_lowest x) on
  where
    odd : (i : ℕ) → digit x 0 ≡ x % 2 → On x 0 → (On x i × On (x - 1) i) ↔ (On x i × (i ≢ 0))
    odd zero e on = ((λ (p, q). absurd (omega (arith, e, on, bit_at_lowest (x - 1), q))), (λ (p, q). absurd (q refl)))
    odd (suc i) e on =
        let h : (x - 1) / 2 ≡ x / 2 = omega (arith, e, on) in
        let s : digit (x - 1) (suc i) ≡ digit x (suc i) = bit_at-suc (x - 1) i ∙ ap (λ (y : ℕ). digit y i) h ∙ sym (bit_at-suc x i) in
        ((λ (p, q). (p, λ z. omega (arith, z))), (λ (p, q). (p, s ∙ p)))
lowered (suc k) x zero on f = let n = f 0 (omega arith) in ((λ (p, q). absurd (n p)), (λ (p, q). absurd (n p)))
lowered (suc k) x (suc i) on f =
    let z : digit x 0 ≡ 0 = off (digit x 0) (bit_at-lt x 0) (f 0 (omega arith)) in
    let h : (x - 1) / 2 ≡ x / 2 - 1 = half (bit_at_lowest x) z in
    let L = lowered k (x / 2) i (sym (bit_at-suc x k) ∙ on) (λ j l g. f (suc j) (omega (arith, l)) (bit_at-suc x j ∙ g)) in
    let s : digit (x - 1) (suc i) ≡ digit (x / 2 - 1) i = bit_at-suc (x - 1) i ∙ ap (λ (y : ℕ). digit y i) h in (
      (λ (p, q). (p, λ e. (L.0 (sym (bit_at-suc x i) ∙ p, sym s ∙ q)).1 (omega (arith, e)))),
      (λ (p, q). (p, s ∙ (L.1 (sym (bit_at-suc x i) ∙ p, λ e. q (omega (arith, e)))).1)),
    )
  where
    off : (n : ℕ) → n < 2 → ¬ (n ≡ 1) → n ≡ 0
    off zero h k = refl
    off (suc zero) h k = absurd (k refl)
    off (suc (suc n)) h k = omega (arith, h)

    half : digit x 0 ≡ x % 2 → digit x 0 ≡ 0 → (x - 1) / 2 ≡ x / 2 - 1
    half e z = omega (arith, e, z)

pub rest_law : (x k : ℕ) → LowestOn x k → Without x k (bit_and x (x - 1))
rest_law x k L = record { exactly = exactly; less = λ on. subset_lt (bit_and x (x - 1)) x k (λ j h. ((exactly j).0 h).0) on (λ h. ((exactly k).0 h).1 refl) }
  where
    exactly : (j : ℕ) → On (bit_and x (x - 1)) j ↔ (On x j × (j ≢ k))
    exactly j = (
      (λ h. (lowered k x j L.on L.below).0 ((both_on x (x - 1) j).0 h)),
      (λ h. (both_on x (x - 1) j).1 ((lowered k x j L.on L.below).1 h)),
    )

-- a number below 2 to the power d has its bits below d
pub bit_below : (d x k : ℕ) → x < 2 ^ d → On x k → k < d
bit_below d x k l on = by_cases (dec_lt k d) (λ h. h) (λ n. omega (arith, bit_at_above x d k l (omega (arith, n)), on))

pub highest_law : (x : ℕ) → x ≢ 0 → x < 2 ^ 64 → (count_leading_zeros 64 x ≤ 63) × HighestOn x (63 - count_leading_zeros 64 x)
highest_law x some h =
    let t = leading_top 64 x (pos x some) h in
    let e : 63 - count_leading_zeros 64 x ≡ t.0 = omega (arith, t.1) in
    let one : x / 2 ^ t.0 ≡ 1 = div-eq_of_lt-le (2 ^ t.0) (omega (arith, t.2)) (omega (arith, t.3, pow-suc 2 t.0)) in (
      omega (arith, t.1),
      record {
        within = omega arith;
        on = subst (λ (k : ℕ). On x k) (sym e) (ap (λ (y : ℕ). y % 2) one);
        above = λ k l on. let i = bit_below (suc t.0) x k t.3 on in absurd (omega (arith, e, i, l));
      },
    )
  where
    pos : (n : ℕ) → n ≢ 0 → 0 < n
    pos zero f = absurd (f refl)
    pos (suc n) f = omega arith

-- the bits of x from s on, moved down
pub shifted : (x s k : ℕ) → On (x / 2 ^ s) k ↔ On x (s + k)
shifted x s k = let e = ap (λ (y : ℕ). y % 2) (shr-shr x s k) in ((λ h. sym e ∙ h), (λ h. e ∙ h))

-- the bits of x that are not bits of y
pub but_on : (x y j : ℕ) → x < 2 ^ 64 → y < 2 ^ 64 → On (bit_and x (bit_not w64 y)) j ↔ (On x j × (¬ On y j))
but_on x y j F G = (to, from)
  where
    N : On x j → digit (bit_not w64 y) j ≡ 1 - digit y j
    N on = bit_at_not w64 y j G (bit_below 64 x j F on)

    to : On (bit_and x (bit_not w64 y)) j → On x j × (¬ On y j)
    to h = let (on, off) = (both_on x (bit_not w64 y) j).0 h in (on, λ o. omega (arith, N on, off, o))

    lone : {d : ℕ} → d < 2 → ¬ (d ≡ 1) → 1 - d ≡ 1
    lone l n = omega (arith, l, n)

    from : On x j × (¬ On y j) → On (bit_and x (bit_not w64 y)) j
    from (on, off) = (both_on x (bit_not w64 y) j).1 (on, N on ∙ lone (bit_at-lt y j) off)

-- the lowest bit from k on, by the word moved down
pub lowest_from_none : (x k y : ℕ) → k < 64 → ((j : ℕ) → On y j ↔ On x (k + j)) → y ≡ 0 → First (On x) k 64 64
lowest_from_none x k y h D e = record {
  from = omega (arith, h);
  within = omega arith;
  holds = λ l. absurd (omega (arith, l));
  before = λ j i l on. let q : k + (j - k) ≡ j = omega (arith, i) in absurd (not_under (bit_below 0 y (j - k) (omega (arith, e)) ((D (j - k)).1 (rw q on))));
}
  where
    not_under : {n : ℕ} → n < 0 → ⊥
    not_under l = omega (arith, l)

pub lowest_from_some : (x k y r : ℕ) → x < 2 ^ 64 → ((j : ℕ) → On y j ↔ On x (k + j)) → LowestOn y r → First (On x) k 64 (k + r)
lowest_from_some x k y r h D L =
    let here = (D r).0 L.on in
    let low = bit_below 64 x (k + r) h here in
    record {
      from = omega arith;
      within = omega (arith, low);
      holds = λ l. here;
      before = λ j i l on. let q : k + (j - k) ≡ j = omega (arith, i) in L.below (j - k) (omega (arith, i, l)) ((D (j - k)).1 (rw q on));
    }

-- ONE BIT MORE, and none
pub or_worth : (x y k j : ℕ) → y ≡ 2 ^ k → On (bit_or x y) j ↔ (On x j ⊎ (j ≡ k))
or_worth x y k j e = rw e ((with_law x k).exactly j)

pub or_nothing : (x y j : ℕ) → y ≡ 0 → On (bit_or x y) j ↔ On x j
or_nothing x y j e = let E = either_on x y j in ((λ on. told (E.0 on)), (λ on. E.1 (inl on)))
  where
    told : (On x j ⊎ On y j) → On x j
    told (inl o) = o
    told (inr o) = let f : digit 0 j ≡ 1 = rw e at o in absurd (omega (arith, bit_at-zero j, f))

-- one bit more where p is 1, and nothing where p is 0
moved_one : (p k : ℕ) → p ≡ 1 → k < 64 → (p * 2 ^ k) % 18446744073709551616 ≡ 2 ^ k
moved_one p k e h = ap (λ (q : ℕ). (q * 2 ^ k) % 18446744073709551616) e ∙ bit_worth k h

moved_none : (p k : ℕ) → p ≡ 0 → (p * 2 ^ k) % 18446744073709551616 ≡ 0
moved_none p k e = let z : 0 * 2 ^ k ≡ 0 = omega arith in ap (λ (q : ℕ). (q * 2 ^ k) % 18446744073709551616) e ∙ ap (λ (q : ℕ). q % 18446744073709551616) z

with_moved : (x p k j : ℕ) → p < 2 → k < 64 → On (bit_or x ((p * 2 ^ k) % 18446744073709551616)) j ↔ (On x j ⊎ ((p ≡ 1) × (j ≡ k)))
with_moved x p k j l h = elim (ℕ_discrete p 1) [ yes e ↦ one e | no e ↦ nothing e ]
  where
    one : p ≡ 1 → On (bit_or x ((p * 2 ^ k) % 18446744073709551616)) j ↔ (On x j ⊎ ((p ≡ 1) × (j ≡ k)))
    one e =
        let W = or_worth x ((p * 2 ^ k) % 18446744073709551616) k j (moved_one p k e h) in
        ((λ on. told (W.0 on)), (λ s. W.1 (back s)))
      where
        told : (On x j ⊎ (j ≡ k)) → On x j ⊎ ((p ≡ 1) × (j ≡ k))
        told (inl o) = inl o
        told (inr f) = inr (e, f)

        back : (On x j ⊎ ((p ≡ 1) × (j ≡ k))) → On x j ⊎ (j ≡ k)
        back (inl o) = inl o
        back (inr f) = inr f.1

    nothing : ¬ (p ≡ 1) → On (bit_or x ((p * 2 ^ k) % 18446744073709551616)) j ↔ (On x j ⊎ ((p ≡ 1) × (j ≡ k)))
    nothing f =
        let W = or_nothing x ((p * 2 ^ k) % 18446744073709551616) j (moved_none p k (omega (arith, l, f))) in
        ((λ on. inl (W.0 on)), (λ s. W.1 (back s)))
      where
        back : (On x j ⊎ ((p ≡ 1) × (j ≡ k))) → On x j
        back (inl o) = o
        back (inr g) = absurd (f g.0)

pub low_with_law : (x w j : ℕ) → w < 128 → On (bit_or x (((1 - w / 64) * 2 ^ (w % 64)) % 18446744073709551616)) j ↔ (On x j ⊎ ((w < 64) × (j ≡ w)))
low_with_law x w j h =
    let M = with_moved x (1 - w / 64) (w % 64) j (omega arith) (omega arith) in
    ((λ on. told (M.0 on)), (λ s. M.1 (back s)))
  where
    told : (On x j ⊎ ((1 - w / 64 ≡ 1) × (j ≡ w % 64))) → On x j ⊎ ((w < 64) × (j ≡ w))
    told (inl o) = inl o
    told (inr f) = inr (omega (arith, f.0), omega (arith, f.0, f.1))

    back : (On x j ⊎ ((w < 64) × (j ≡ w))) → On x j ⊎ ((1 - w / 64 ≡ 1) × (j ≡ w % 64))
    back (inl o) = inl o
    back (inr f) = inr (omega (arith, f.0), omega (arith, f.0, f.1))

pub high_with_law : (x w j : ℕ) → w < 128 → On (bit_or x ((w / 64 * 2 ^ (w % 64)) % 18446744073709551616)) j ↔ (On x j ⊎ (64 + j ≡ w))
high_with_law x w j h =
    let M = with_moved x (w / 64) (w % 64) j (omega arith) (omega arith) in
    ((λ on. told (M.0 on)), (λ s. M.1 (back s)))
  where
    told : (On x j ⊎ ((w / 64 ≡ 1) × (j ≡ w % 64))) → On x j ⊎ (64 + j ≡ w)
    told (inl o) = inl o
    told (inr f) = inr (omega (arith, f.0, f.1))

    -- a bit of a word is below 64
    back : (On x j ⊎ (64 + j ≡ w)) → On x j ⊎ ((w / 64 ≡ 1) × (j ≡ w % 64))
    back (inl o) = inl o
    back (inr f) = inr (omega (arith, f, h), omega (arith, f, h))
