-- The froms of a well_formed body do not fall, so a number parts its transitions.
use mathlib.Core.Path.{◌≡◌, sym, ◌∙◌, ap₂, subst}
use mathlib.Core.Logic.{⊎_elim, by_cases}
use mathlib.Core.List.{List}
use Prim.Native.Nat.{ℕ, ◌+◌, ◌*◌, ◌≤◌, ◌<◌}
use native.Mathlib.Nat.{eq-or-lt_of_le, le_refl}
use native.Mathlib.Decide.{dec_le, dec_lt}
use native.Mathlib.Omega.{arith}
use lib.ListN.{length, get_or, set, replicate, length-set, length-replicate}
use lib.Seq.{get_or-set_same, get_or-set_other, ext_get_or}
use borrow.Author.Count.{below_more}
use Rattle.bits.specs.Bits.{Bytes}
use Rattle.bits.proofs.Determined.{split_one}
use Rattle.bits.proofs.Gains.{filled}
use Rattle.bits.specs.declared.Span.{Span}
use Rattle.chart.specs.Bodies.{vertices_of, count_of, from_of, action_of, key_at, WellFormed}
use Rattle.bits.specs.First.{Split}
use Rattle.chart.specs.Leaving.{FromBelow, RangeOf, Begins}

-- of bytes, a lower key has no higher from
key_from : (b : List ℕ) → Bytes b → (i j : ℕ) → key_at b i < key_at b j → from_of b i ≤ from_of b j
key_from b B i j h = omega (arith, B (4 * j + 4 + 1), B (4 * j + 4 + 2))

pub sorted : (b : List ℕ) → Bytes b → WellFormed b → (i j : ℕ) → i ≤ j → j < count_of b → from_of b i ≤ from_of b j
sorted b B W i j l h =
    ⊎_elim (λ e. subst (λ (x : ℕ). from_of b i ≤ from_of b x) e (le_refl _)) (λ m. key_from b B i j (W.ascending i j m h)) (eq-or-lt_of_le l)

-- THE ACTIONS of one vertex do not fall
pub actions_sorted : (b : List ℕ) → Bytes b → WellFormed b → (i j : ℕ) → i ≤ j → j < count_of b → from_of b i ≡ from_of b j
    → action_of b i ≤ action_of b j
actions_sorted b B W i j l h e =
    ⊎_elim (λ z. subst (λ (x : ℕ). action_of b i ≤ action_of b x) z (le_refl _))
    (λ m. let k = W.ascending i j m h in omega (arith, k, e, B (4 * j + 4 + 2)))
    (eq-or-lt_of_le l)

-- what a search for the split keeps
pub record Bracket (b : List ℕ) (n v lo hi : ℕ) : Type 0 where
  pub order : lo ≤ hi
  pub within : hi ≤ n
  pub below : (i : ℕ) → i < lo → from_of b i < v
  pub above : (i : ℕ) → hi ≤ i → i < n → v ≤ from_of b i

module _ (b : List ℕ) (B : Bytes b) (W : WellFormed b) (n v : ℕ) (e : n ≡ count_of b) {lo hi : ℕ} (R : Bracket b n v lo hi) (mid : ℕ) (l : lo ≤ mid) (h : mid < hi) where
  pub up : from_of b mid < v → Bracket b n v (mid + 1) hi
  up t = record {
    order = omega arith;
    within = R.within;
    below = λ k m. omega (arith, sorted b B W k mid (omega arith) (omega arith));
    above = R.above;
  }

  pub down : v ≤ from_of b mid → Bracket b n v lo mid
  down t = record {
    order = l;
    within = omega arith;
    below = R.below;
    above = λ k m j. omega (arith, sorted b B W mid k m (omega arith));
  }

-- a search that has met
pub met : {b : List ℕ} {n v lo hi : ℕ} → Bracket b n v lo hi → hi ≤ lo → Split (FromBelow b v) n lo
met R h = record { within = omega arith; below = λ k l. record { is = R.below k l }; above = λ k l m f. omega (arith, R.above k (omega arith) m, f.is) }

-- the first transition whose from is not below v parts them
pub first_above : (b : List ℕ) → Bytes b → WellFormed b → (n v i : ℕ) → n ≡ count_of b → i ≤ n → ((k : ℕ) → k < i → from_of b k < v) → (i < n → v ≤ from_of b i) → Split (FromBelow b v) n i
first_above b B W n v i e l below stop = record {
  within = l;
  below = λ k h. record { is = below k h };
  above = λ k m h f. omega (arith, stop (omega arith), sorted b B W i k m (omega arith), f.is);
}

-- the transitions of one vertex stand between the split at it and the split after it
module _ {b : List ℕ} {n v lo hi : ℕ} (L : Split (FromBelow b v) n lo) (H : Split (FromBelow b (v + 1)) n hi) where
  pub low_high : lo ≤ hi
  low_high =
      by_cases (dec_le lo hi) (λ h. h)
      (λ h. absurd (H.above hi (le_refl hi) (omega (arith, L.within)) (record { is = omega (arith, (L.below hi (omega arith)).is) })))

  pub at_low : (k : ℕ) → k < lo → from_of b k ≡ v → ⊥
  at_low k h e = omega (arith, (L.below k h).is)

  pub at_mid : (k : ℕ) → lo ≤ k → k < hi → from_of b k ≡ v
  at_mid k l h =
      by_cases (dec_lt (from_of b k) v)
      (λ g. absurd (L.above k l (omega (arith, H.within)) (record { is = g })))
      (λ g. omega (arith, (H.below k h).is))

  pub at_high : (k : ℕ) → hi ≤ k → k < n → from_of b k ≡ v → ⊥
  at_high k l h e = H.above k l h (record { is = omega arith })

  -- and all of them do
  pub between : (k : ℕ) → k < n → from_of b k ≡ v → (lo ≤ k) × (k < hi)
  between k h e = (
    by_cases (dec_le lo k) (λ g. g) (λ g. absurd (at_low k (omega arith) e)),
    by_cases (dec_le hi k) (λ g. absurd (at_high k g h e)) (λ g. omega arith),
  )

-- what the loop of `begins` keeps: the entries below v are there, no transition passed leaves v or above, and the others are n
pub record BeginsBelow (b : List ℕ) (n : ℕ) (r : List ℕ) (at v : ℕ) : Type 0 where
  pub long : length r ≡ 129
  pub within : at ≤ n
  pub passed : (i : ℕ) → i < at → from_of b i < v
  pub split : (k : ℕ) → k < v → Split (FromBelow b k) n (get_or r k 0)
  pub later : (k : ℕ) → v ≤ k → k < 129 → get_or r k 0 ≡ n

pub begins_none : (b : List ℕ) (n : ℕ) → BeginsBelow b n (replicate 129 n) 0 0
begins_none b n = record { long = length-replicate {A = ℕ} 129 n; within = omega arith; passed = λ i h. absurd (omega arith); split = λ k h. absurd (omega arith); later = λ k l h. filled 129 n k h }

pub begins_more : {b : List ℕ} {n at at' v : ℕ} {r : List ℕ} → BeginsBelow b n r at v → v < 129 → Split (FromBelow b v) n at' → BeginsBelow b n (set r v at') at' (v + 1)
begins_more {b} {n} {at} {at'} {v} {r} R h S = record {
  long = length-set r v at' ∙ R.long;
  within = S.within;
  passed = λ i l. omega (arith, (S.below i l).is);
  split = below_more (λ (k : ℕ). Split (FromBelow b k) n (get_or (set r v at') k 0)) v
      (λ k l. subst (Split (FromBelow b k) n) (sym (get_or-set_other r v k at' 0 (λ e. omega arith))) (R.split k l))
      (subst (Split (FromBelow b v) n) (sym (get_or-set_same r v at' 0 (omega (arith, R.long)))) S);
  later = λ k l m. get_or-set_other r v k at' 0 (λ e. omega arith) ∙ R.later k (omega arith) m;
}

-- no vertex from V on has transitions
pub begins_all : {b r : List ℕ} {n at v : ℕ} → WellFormed b → n ≡ count_of b → BeginsBelow b n r at v → vertices_of b ≤ v → Begins b r
begins_all {b} {r} {n} {at} {v} W e R h = record { long = R.long; split = λ k l. subst (λ (m : ℕ). Split (FromBelow b k) m (get_or r k 0)) e (by_cases (dec_lt k v) (R.split k) (λ g. past_last k l (omega arith))) }
  where
    past_last : (k : ℕ) → k ≤ 128 → v ≤ k → Split (FromBelow b k) n (get_or r k 0)
    past_last k l g = rw (R.later k g (omega arith)) (record { within = omega arith; below = λ i m. record { is = omega (arith, (W.each i (omega arith)).from_high) }; above = λ i m j. absurd (omega arith) })

abbrev pub span_of : ℕ → ℕ → Span
span_of a e = record { from = a; to = e }

-- a vertex has an entry, and a next one
module _ {b r : List ℕ} (R : Begins b r) (u : ℕ) (l : u < 128) where
  pub begin_order : get_or r u 0 ≤ get_or r (u + 1) 0
  begin_order = low_high (R.split u (omega arith)) (R.split (u + 1) (omega arith))

  pub begin_high : get_or r (u + 1) 0 ≤ count_of b
  begin_high = (R.split (u + 1) (omega arith)).within

  pub begins_range : RangeOf b u (span_of (get_or r u 0) (get_or r (u + 1) 0))
  begins_range = record { begins = R.split u (omega arith); ends = R.split (u + 1) (omega arith) }

-- one answer
pub begins_one : {b r t : List ℕ} → Begins b r → Begins b t → r ≡ t
begins_one {b} {r} {t} R S = ext_get_or 0 r t (R.long ∙ sym S.long) (λ i h. split_one (R.split i (omega (arith, R.long))) (S.split i (omega (arith, R.long))))

-- nothing leaves a vertex from V on
pub range_high : {b : List ℕ} {n v : ℕ} → WellFormed b → n ≡ count_of b → vertices_of b ≤ v → RangeOf b v (record { from = n; to = n })
range_high {b} {n} {v} W e h = record { begins = all v h; ends = all (v + 1) (omega arith) }
  where
    all : (u : ℕ) → vertices_of b ≤ u → Split (FromBelow b u) (count_of b) n
    all u l = record {
      within = omega (arith, e);
      below = λ i g. record { is = omega (arith, (W.each i (omega (arith, e))).from_high) };
      above = λ i p q. absurd (omega (arith, e));
    }

-- one answer
pub range_one : {b : List ℕ} {v : ℕ} {r t : Span} → RangeOf b v r → RangeOf b v t → r ≡ t
range_one R S = ap₂ span_of (split_one R.begins S.begins) (split_one R.ends S.ends)
