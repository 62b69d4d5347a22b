-- A number comes into a set by two words of a table.
use mathlib.Core.Path.{◌≡◌, refl, sym, ◌∙◌}
use mathlib.Core.Logic.{◌⊎◌, inl, ⊎_elim, by_cases, ◌↔◌}
use mathlib.Core.List.{List}
use Prim.Native.Nat.{ℕ, min, ◌+◌, ◌-◌, ◌^◌, ◌<◌}
use native.Mathlib.Decide.{dec_lt, ℕ_discrete}
use native.Mathlib.Omega.{arith}
use lib.Bits.{bit_or}
use lib.ListN.{length, get_or, set, length-set, replicate}
use lib.Seq.{get_or-set_same, get_or-set_other, ext_get_or}
use Rattle.bits.specs.declared.sets.Set.{Set}
use Rattle.bits.specs.Words.{On}
use Rattle.bits.specs.Sets.{Has, Ones}
use Rattle.bits.proofs.Words.{or_worth, or_nothing}
use Rattle.bits.proofs.Members.{⊎_map, with_law}
use Rattle.bits.proofs.Gains.{blank}

module _ {n : ℕ} {a : List ℕ} (O : Ones n a) {w : ℕ} (l : w < n) (h : w < 128) where
  low : (x j : ℕ) → On (bit_or x (get_or a (64 + w) 0)) j ↔ (On x j ⊎ ((w < 64) × (j ≡ w)))
  low x j = by_cases (dec_lt w 64)
      (λ m. let W = or_worth x (get_or a (64 + w) 0) w j (O.worth w (omega arith)) in
      ((λ on. ⊎_map (λ o. o) (λ e. (m, e)) (W.0 on)), (λ s. W.1 (⊎_map (λ o. o) (λ e. e.1) s))))
      (λ m. let W = or_nothing x (get_or a (64 + w) 0) j (O.after (64 + w) (omega arith)) in
      ((λ on. inl (W.0 on)), (λ s. W.1 (⊎_elim (λ o. o) (λ e. absurd (m e.0)) s))))

  high : (x j : ℕ) → On (bit_or x (get_or a w 0)) j ↔ (On x j ⊎ (64 + j ≡ w))
  high x j = by_cases (dec_lt w 64)
      (λ m. let W = or_nothing x (get_or a w 0) j (O.before w m) in
      ((λ on. inl (W.0 on)), (λ s. W.1 (⊎_elim (λ o. o) (λ e. absurd (omega (arith, e, m))) s))))
      (λ m. let q : 64 + (w - 64) ≡ w = omega arith in
      let W = or_worth x (get_or a w 0) (w - 64) j (rw q at (O.worth (w - 64) (omega arith))) in
      ((λ on. ⊎_map (λ o. o) (λ e. omega (arith, e, m)) (W.0 on)), (λ s. W.1 (⊎_map (λ o. o) (λ e. omega (arith, e)) s))))

  pub with_by_law : (s : Set) (y : ℕ)
      → Has (record { lo = bit_or s.lo (get_or a (64 + w) 0); hi = bit_or s.hi (get_or a w 0) }) y ↔ (Has s y ⊎ (y ≡ w))
  with_by_law s =
      with_law s w (record { lo = bit_or s.lo (get_or a (64 + w) 0); hi = bit_or s.hi (get_or a w 0) }) h (low s.lo) (high s.hi)

-- THE TABLE for no number, for one more, and for all
pub ones_none : Ones 0 (replicate 192 0)
ones_none = record { long = refl; worth = λ k h. absurd (omega arith); before = λ i h. blank 192 i; after = λ i h. blank 192 i }

pub ones_more : {k : ℕ} {a : List ℕ} {x : ℕ} → Ones k a → k < 64 → x ≡ 2 ^ k → Ones (k + 1) (set a (64 + k) x)
ones_more {k} {a} {x} O h e = record {
  long = length-set a (64 + k) x ∙ O.long;
  worth = λ j l. by_cases (ℕ_discrete j k)
      (λ z. rw z (get_or-set_same a (64 + k) x 0 (omega (arith, O.long)) ∙ e))
      (λ z. get_or-set_other a (64 + k) (64 + j) x 0 (λ f. z (omega arith)) ∙ O.worth j (omega arith));
  before = λ i l. get_or-set_other a (64 + k) i x 0 (λ f. omega arith) ∙ O.before i l;
  after = λ i l. get_or-set_other a (64 + k) i x 0 (λ f. omega arith) ∙ O.after i (omega arith);
}

pub ones_all : {k n : ℕ} {a : List ℕ} → Ones k a → k ≡ min n 64 → Ones n a
ones_all O e = record {
  long = O.long;
  worth = λ j l. O.worth j (omega arith);
  before = O.before;
  after = λ i l. O.after i (omega arith);
}

-- one table
pub ones_one : {n : ℕ} {a b : List ℕ} → Ones n a → Ones n b → a ≡ b
ones_one {n} {a} {b} O P = ext_get_or 0 a b (O.long ∙ sym P.long) each
  where
    each : (i : ℕ) → i < length a → get_or a i 0 ≡ get_or b i 0
    each i h = by_cases (dec_lt i 64) (λ l. O.before i l ∙ sym (P.before i l)) (λ l. by_cases (dec_lt i (64 + min n 64)) (worth l)
        (λ m. O.after i (omega arith) ∙ sym (P.after i (omega arith))))
      where
        worth : ¬ (i < 64) → i < 64 + min n 64 → get_or a i 0 ≡ get_or b i 0
        worth l m =
            let q : 64 + (i - 64) ≡ i = omega arith in
            rw q at (O.worth (i - 64) (omega arith) ∙ sym (P.worth (i - 64) (omega arith)))
