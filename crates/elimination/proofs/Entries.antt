-- The entries of a loop in the bytes: what 50 asks of them, where they lead, and their bytes cleared.
use Prim.Native.Nat.{ℕ, ◌+◌, ◌-◌, ◌≤◌, ◌<◌}
use mathlib.Core.Path.{◌≡◌, sym, ap, ◌∙◌}
use mathlib.Core.Logic.{◌≢◌, by_cases}
use mathlib.Core.Bool.{◌&&◌}
use mathlib.Core.List.{List, ◌++◌}
use native.Mathlib.Decide.{ℕ_discrete, dec_lt}
use native.Mathlib.Omega.{arith}
use lib.Dec.{eqb, leb}
use lib.ListN.{length, get_or, take, drop}
use lib.Seq.{get_or-take, get_or-drop, take_at, drop_at, length-take-le}
use borrow.Rule.Slice.PartMut.{post_of, put_mid, same_len_mid, mid_len, take_put, drop_put}
use Rattle.theory.proofs.Tests.{decides_same, decides_and, decides_eqb, decides_leb}
use Rattle.theory.specs.Tests.{Decides}
use Rattle.std.specs.Prelude.{Ok}
use Rattle.bits.specs.Bits.{HighestByte}
use Rattle.bits.specs.declared.sets.Set.{Set}
use Rattle.bits.specs.Sets.{Members}
use Rattle.bits.specs.declared.Span.{Span}
use Rattle.chart.specs.Bodies.{count_of, from_of}
use Rattle.chart.specs.Checks.{check_of}
use Rattle.chart.specs.Leaving.{RangeOf}
use Rattle.chart.specs.Parts.{beside}
use Rattle.chart.specs.Steps.{Kept, StandingOf}
use Rattle.chart.specs.Standing.{TakenOut}
use Rattle.chart.proofs.Checks.{well_formed}
use Rattle.chart.proofs.Rows.{to_low}
use Rattle.chart.proofs.Order.{low_high, at_mid, between}
use Rattle.elimination.specs.RemovalAnswers.{StandingFits}
use Rattle.elimination.specs.Loops.{EntryTargets, Cleared}

-- 50 as two comparisons
pub fits_test : (b standing : List ℕ) (n h : ℕ) → n ≡ count_of b → HighestByte standing h
    → Decides (eqb (length standing) n && leb h 1) (StandingFits b standing)
fits_test b standing n h e H = decides_same (to, from) (decides_and (decides_eqb (length standing) n) (decides_leb h 1))
  where
    to : (length standing ≡ n) × (h ≤ 1) → StandingFits b standing
    to (p, q) = record { long = p ∙ e; marks = λ i g. omega (arith, H.above i, q) }

    from : StandingFits b standing → (length standing ≡ n) × (h ≤ 1)
    from f = (
      f.long ∙ sym e,
      by_cases (ℕ_discrete h 0) (λ z. omega arith)
          (λ z. let (i, l, q) = H.is_byte (omega arith) in omega (arith, q, f.marks i (omega (arith, l, f.long)))),
    )

-- where the standing entries of (v, l) lead, above the level 0 of branches
module _ {b labels standing : List ℕ} {v l : ℕ} {s : Set} where
  pub entry_all : 0 < l → Members (StandingOf b labels standing v l) s → Members (EntryTargets b labels standing v l) s
  entry_all some M = record { exactly = λ w h. ((λ g. (some, (M.exactly w h).0 g)), (λ e. (M.exactly w h).1 e.1)) }

-- those whose label is l are cleared before place i
pub record Clearing (labels : List ℕ) (l i : ℕ) (before after : List ℕ) : Type 0 where
  pub long : length after ≡ length before
  pub gone : (k : ℕ) → k < i → get_or labels k 0 ≡ l → get_or after k 0 ≡ 0
  pub kept : (k : ℕ) → k < i → get_or labels k 0 ≢ l → get_or after k 0 ≡ get_or before k 0
  pub above : (k : ℕ) → i ≤ k → get_or after k 0 ≡ get_or before k 0

-- WHERE A PART OF A LIST IS PUT BACK, by index: from place a up to place e
module _ (a e : ℕ) (xs ys : List ℕ) (h : a ≤ e) (g : e ≤ length xs) (l : length ys ≡ e - a) where
  abbrev back : List ℕ
  back = put_mid a (e - a) xs ys

  put_low : (i : ℕ) → i < a → get_or back i 0 ≡ get_or xs i 0
  put_low i p =
      sym (get_or-take a back i 0 p) ∙ ap (λ (z : List ℕ). get_or z i 0) (take_put a (e - a) xs ys (omega (arith, h, g))) ∙ get_or-take a xs i 0 p

  put_high : (i : ℕ) → e ≤ i → get_or back i 0 ≡ get_or xs i 0
  put_high i p =
      let z : e + (i - e) ≡ i = omega arith in
      ap (λ (j : ℕ). get_or back j 0) (sym z) ∙ sym (get_or-drop e back (i - e) 0)
      ∙ ap (λ (z : List ℕ). get_or z (i - e) 0) (drop_put a e xs ys h g l) ∙ get_or-drop e xs (i - e) 0 ∙ ap (λ (j : ℕ). get_or xs j 0) z

  put_mid_lem : (i : ℕ) → a ≤ i → i < e → get_or back i 0 ≡ get_or ys (i - a) 0
  put_mid_lem i p q =
      let z : a + (i - a) ≡ i = omega arith in
      let d : drop a back ≡ ys ++ post_of a (e - a) xs =
      drop_at (take a xs) (ys ++ post_of a (e - a) xs) a (length-take-le a xs (omega (arith, h, g))) in
      ap (λ (j : ℕ). get_or back j 0) (sym z) ∙ sym (get_or-drop a back (i - a) 0) ∙ ap (λ (z : List ℕ). get_or z (i - a) 0) d
      ∙ sym (get_or-take (e - a) (ys ++ post_of a (e - a) xs) (i - a) 0 (omega (arith, p, q)))
      ∙ ap (λ (z : List ℕ). get_or z (i - a) 0) (take_at ys (post_of a (e - a) xs) (e - a) l)

-- IN THE WHOLE: the bytes of a range are cleared, and those before and after it stay
pub cleared_out : {b labels : List ℕ} {v l : ℕ} {r : Span} {before ys : List ℕ} → RangeOf b v r → length labels ≡ count_of b
    → length before ≡ count_of b → Cleared (beside r labels) l (beside r before) ys
    → TakenOut b labels v l before (put_mid r.from (r.to - r.from) before ys)
cleared_out {b} {labels} {v} {l} {r} {before} {ys} R e f C = record {
  long = same_len_mid r.from (r.to - r.from) before ys C.long;
  gone = λ k h (p, q). let (m, n) = between R.begins R.ends k h p in
      put_mid_lem r.from r.to before ys o w y k m n ∙ C.gone (k - r.from) (place k m n) (there labels k m n ∙ q);
  kept = λ k h d. by_cases (ℕ_discrete (from_of b k) v)
      (λ p. let (m, n) = between R.begins R.ends k h p in
      put_mid_lem r.from r.to before ys o w y k m n
      ∙ C.kept (k - r.from) (place k m n) (λ q. d (p, sym (there labels k m n) ∙ q)) ∙ there before k m n)
      (λ p. outside k p);
}
  where
    o : r.from ≤ r.to
    o = low_high R.begins R.ends

    w : r.to ≤ length before
    w = omega (arith, R.ends.within, f)

    long : (bytes : List ℕ) → length bytes ≡ count_of b → length (beside r bytes) ≡ r.to - r.from
    long bytes z = mid_len r.from r.to bytes (omega (arith, R.ends.within, z))

    y : length ys ≡ r.to - r.from
    y = C.long ∙ long before f

    place : (k : ℕ) → r.from ≤ k → k < r.to → k - r.from < length (beside r labels)
    place k m n = omega (arith, m, n, long labels e)

    there : (bytes : List ℕ) (k : ℕ) → r.from ≤ k → k < r.to → get_or (beside r bytes) (k - r.from) 0 ≡ get_or bytes k 0
    there bytes k m n =
        let z : r.from + (k - r.from) ≡ k = omega (arith, m) in
        get_or-take (r.to - r.from) (drop r.from bytes) (k - r.from) 0 (omega (arith, m, n)) ∙ get_or-drop r.from bytes (k - r.from) 0
        ∙ ap (λ (j : ℕ). get_or bytes j 0) z

    outside : (k : ℕ) → from_of b k ≢ v → get_or (put_mid r.from (r.to - r.from) before ys) k 0 ≡ get_or before k 0
    outside k p = by_cases (dec_lt k r.from) (put_low r.from r.to before ys o w y k)
        (λ m. by_cases (dec_lt k r.to)
        (λ n. absurd (p (at_mid R.begins R.ends k (omega (arith, m)) n)))
        (λ n. put_high r.from r.to before ys o w y k (omega (arith, n))))

-- kept transitions of a body that passes lead to numbers of sets
pub kept_low : {b keep : List ℕ} → check_of b ≡ Ok tt → (u w : ℕ) → Kept b keep u w → w < 128
kept_low {b} c u w k = omega (arith, k.enters, to_low (well_formed b c) k.at k.within)
