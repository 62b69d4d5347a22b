-- The transitions that leave a vertex are one part of the body's bytes.
use mathlib.Core.Path.{◌≡◌, refl, sym, ap, ◌∙◌, subst}
use mathlib.Core.Logic.{◌≢◌}
use mathlib.Core.List.{List, [], ◌++◌, append_assoc, append-nil}
use Prim.Native.Nat.{ℕ, zero, suc, ◌+◌, ◌-◌, ◌*◌, ◌≤◌, ◌<◌}
use native.Mathlib.Nat.{add-zero, zero-add, add-suc, suc-add}
use native.Mathlib.Omega.{arith}
use lib.ListN.{length, get_or, take, drop, length-drop}
use lib.Seq.{take-add, drop-drop, get_or-take, get_or-drop, length-take-le, ext_get_or}
use lib.Dec.{leb}
use borrow.Author.Tests.{eq-eqb, ne_eqb, leb-true, leb-false}
use Rattle.theory.specs.Tests.{lowest}
use Rattle.theory.proofs.Tests.{lowest_stops}
use Rattle.std.specs.Prelude.{Result, Ok, Err}
use Rattle.report.specs.declared.Refusal.{Refusal}
use Rattle.bits.specs.Bits.{Bytes}
use Rattle.bits.specs.declared.Span.{Span}
use Rattle.chart.specs.Bodies.{vertices_of, count_of, from_of, WellFormed}
use Rattle.bits.specs.First.{Split}
use Rattle.bits.proofs.Determined.{split_one}
use Rattle.chart.specs.Checks.{check_of}
use Rattle.chart.specs.Leaving.{leaving_at, leaving_of, FromBelow, RangeOf, OneRange}
use Rattle.chart.specs.Parts.{PartOf}
use Rattle.chart.proofs.Checks.{well_formed, passes}
use Rattle.chart.proofs.Order.{first_above, low_high, at_low, at_mid, at_high}

-- transitions of other vertices give nothing
skip : (b : List ℕ) (v i d r : ℕ) → ((k : ℕ) → i ≤ k → k < i + d → from_of b k ≡ v → ⊥) → leaving_at b v i (d + r) ≡ leaving_at b v (i + d) r
unfolding leaving_at
skip b v i zero r h = rw (zero-add r, add-zero i)
skip b v i (suc d) r h = rw (suc-add d r, ne_eqb _ _ (h i (omega arith) (omega arith)), skip b v (suc i) d r (λ k l m. h k (omega arith) (omega arith)), suc-add i d, add-suc i d)

-- those of the vertex give their bytes
gather : (b : List ℕ) (v i d r : ℕ) → ((k : ℕ) → i ≤ k → k < i + d → from_of b k ≡ v) → leaving_at b v i (d + r) ≡ take (4 * d) (drop (4 * i + 4) b) ++ leaving_at b v (i + d) r
unfolding leaving_at
gather b v i zero r h = rw (zero-add r, add-zero i)
gather b v i (suc d) r h =
    let e : 4 * suc d ≡ 4 + 4 * d = omega arith in
    let f : 4 * suc i + 4 ≡ 4 * i + 4 + 4 = omega arith in
    rw (suc-add d r, eq-eqb _ _ (h i (omega arith) (omega arith)), gather b v (suc i) d r (λ k l m. h k (omega arith) (omega arith)), e, take-add 4, drop-drop 4, append_assoc, f, suc-add i d, add-suc i d)

at_end_lem : (b : List ℕ) (v i : ℕ) → leaving_at b v i 0 ≡ []
unfolding leaving_at
at_end_lem b v i = refl

none_leave : (b : List ℕ) (v i n : ℕ) → ((k : ℕ) → i ≤ k → k < i + n → from_of b k ≡ v → ⊥) → leaving_at b v i n ≡ []
none_leave b v i n h =
    let e : n ≡ n + 0 = omega arith in
    ap (leaving_at b v i) e ∙ skip b v i n 0 h ∙ at_end_lem b v (i + n)

module _ (b : List ℕ) (n v lo hi : ℕ) (L : Split (FromBelow b v) n lo) (H : Split (FromBelow b (v + 1)) n hi) where
  pub leaving_part_lem : take (4 * hi + 4 - (4 * lo + 4)) (drop (4 * lo + 4) b) ≡ leaving_at b v 0 n
  leaving_part_lem =
      let lh = low_high L H in
      let hn = H.within in
      let e₁ : n ≡ lo + (n - lo) = omega arith in
      let e₂ : n - lo ≡ (hi - lo) + (n - hi) = omega arith in
      let e₃ : lo + (hi - lo) ≡ hi = omega arith in
      let e₅ : 4 * hi + 4 - (4 * lo + 4) ≡ 4 * (hi - lo) = omega arith in
      let s₁ : leaving_at b v 0 (lo + (n - lo)) ≡ leaving_at b v (0 + lo) (n - lo) = skip b v 0 lo (n - lo) (λ k l h. at_low L H k (omega arith)) in
      let s₂ : leaving_at b v lo ((hi - lo) + (n - hi)) ≡ take (4 * (hi - lo)) (drop (4 * lo + 4) b) ++ leaving_at b v (lo + (hi - lo)) (n - hi) = gather b v lo (hi - lo) (n - hi) (λ k l h. at_mid L H k l (omega arith)) in
      let s₃ : leaving_at b v hi (n - hi) ≡ [] = none_leave b v hi (n - hi) (λ k l h. at_high L H k l (omega arith)) in
      cc (zero-add lo, append-nil (take (4 * (hi - lo)) (drop (4 * lo + 4) b)))

leaving_passed : (b : List ℕ) (v : ℕ) → check_of b ≡ Ok tt → leaving_of b v ≡ leaving_at b v 0 (count_of b)
unfolding leaving_of
leaving_passed b v e = rw e

-- the range of a vertex, in numbers
pub record RangeFits (b : List ℕ) (r : Span) : Type 0 where
  pub order : r.from ≤ r.to
  pub within : r.to ≤ count_of b
  pub few : count_of b ≤ 8192
  pub whole : length b ≡ 4 + 4 * count_of b

pub range_fits : {b : List ℕ} {r : Span} → check_of b ≡ Ok tt → OneRange b r → RangeFits b r
range_fits {b} e (v, R) = let W = well_formed b e in record {
  order = low_high R.begins R.ends;
  within = R.ends.within;
  few = W.header.count_high;
  whole = W.header.whole;
}

pub leaving_range : {b : List ℕ} {v : ℕ} {r : Span} → check_of b ≡ Ok tt → RangeOf b v r
    → take (4 * r.to + 4 - (4 * r.from + 4)) (drop (4 * r.from + 4) b) ≡ leaving_of b v
leaving_range {b} {v} {r} e R = leaving_part_lem b (count_of b) v r.from r.to R.begins R.ends ∙ sym (leaving_passed b v e)

-- EMPTY where 20 or 21 refuses the body
pub leaving_refused : (b : List ℕ) (v : ℕ) {p : _} → check_of b ≡ Err p → leaving_of b v ≡ []
unfolding leaving_of
leaving_refused b v e = rw e

-- so is the part of a vertex that no transition leaves, and of a number of V or above
pub leaving_none : (b : List ℕ) (v : ℕ) → WellFormed b → ((i : ℕ) → i < count_of b → from_of b i ≢ v) → leaving_of b v ≡ []
leaving_none b v W n = leaving_passed b v (passes b W) ∙ none_leave b v 0 (count_of b) (λ k l m e. n k (omega arith) e)

pub leaving_high : (b : List ℕ) (v : ℕ) → WellFormed b → vertices_of b ≤ v → leaving_of b v ≡ []
leaving_high b v W h = leaving_none b v W (λ i l e. omega (arith, (W.each i l).from_high))

-- what stands between two splits, by index
module _ {b : List ℕ} {v lo hi : ℕ} (W : WellFormed b) (L : Split (FromBelow b v) (count_of b) lo)
    (H : Split (FromBelow b (v + 1)) (count_of b) hi) where
  part_between : {part : List ℕ} → part ≡ take (4 * hi + 4 - (4 * lo + 4)) (drop (4 * lo + 4) b) → PartOf b v part
  part_between {part} e =
      let n = 4 * hi + 4 - (4 * lo + 4) in
      let l : lo ≤ hi = low_high L H in
      let d : length (drop (4 * lo + 4) b) ≡ length b - (4 * lo + 4) = length-drop (4 * lo + 4) b in
      let t : length (take n (drop (4 * lo + 4) b)) ≡ n = length-take-le n _ (omega (arith, d, W.header.whole, H.within, l)) in
      let long : length part ≡ n = ap length e ∙ t in
      record {
        at = lo;
        begins = L;
        ends = subst (Split (FromBelow b (v + 1)) (count_of b)) (omega (arith, long, l)) H;
        whole = omega (arith, long, l);
        same = λ i h. ap (λ (x : List ℕ). get_or x i 0) e ∙ get_or-take n (drop (4 * lo + 4) b) i 0 (omega (arith, h, long))
            ∙ get_or-drop (4 * lo + 4) b i 0;
      }

part_one : {b p q : List ℕ} {v : ℕ} → PartOf b v p → PartOf b v q → p ≡ q
part_one {b} {p} {q} S T =
    let a : S.at ≡ T.at = split_one S.begins T.begins in
    let n = split_one S.ends T.ends in
    let l : length p ≡ length q = omega (arith, S.whole, T.whole, a, n) in
    ext_get_or 0 p q l (λ i h. S.same i h ∙ ap (λ (j : ℕ). get_or b (4 * j + 4 + i) 0) a ∙ sym (T.same i (omega (arith, h, l))))

-- where the transitions of a vertex begin, in a body of bytes that passes
module _ (b : List ℕ) (B : Bytes b) where
  -- the first transition whose from is not below u
  abbrev from : ℕ → ℕ
  from u = lowest (λ i. leb u (from_of b i)) 0 (count_of b)

  parts : WellFormed b → (u : ℕ) → Split (FromBelow b u) (count_of b) (from u)
  parts W u =
      let s = lowest_stops (λ i. leb u (from_of b i)) 0 (count_of b) in
      first_above b B W (count_of b) u (from u) refl (omega (arith, s.within)) (λ k h. leb-false _ _ (s.below k (omega arith) h)) (λ h. leb-true _ _ (s.passes (omega arith)))

  passed_part : (v : ℕ) → check_of b ≡ Ok tt → leaving_of b v ≡ take (4 * from (v + 1) + 4 - (4 * from v + 4)) (drop (4 * from v + 4) b)
  passed_part v e = let W = well_formed b e in
      leaving_passed b v e ∙ sym (leaving_part_lem b (count_of b) v (from v) (from (v + 1)) (parts W v) (parts W (v + 1)))

  -- THE ANSWER IS A PART OF THE BODY, whatever the body and the vertex
  pub leaving_is_part : (v : ℕ) → (a n : ℕ) × (leaving_of b v ≡ take n (drop a b))
  leaving_is_part v = go (check_of b) refl
    where
      go : (s : Result Unit Refusal) → check_of b ≡ s → (a n : ℕ) × (leaving_of b v ≡ take n (drop a b))
      go (Err p) e = (0, 0, leaving_refused b v e)
      go (Ok tt) e = (4 * from v + 4, 4 * from (v + 1) + 4 - (4 * from v + 4), passed_part v e)

  -- BY INDEX: the transitions of v, where the body passes
  pub leaving_by_index : (v : ℕ) → check_of b ≡ Ok tt → PartOf b v (leaving_of b v)
  leaving_by_index v e = let W = well_formed b e in part_between W (parts W v) (parts W (v + 1)) (passed_part v e)

  -- and no other list is
  pub leaving_only : {v : ℕ} {part : List ℕ} → check_of b ≡ Ok tt → PartOf b v part → part ≡ leaving_of b v
  leaving_only {v} e S = part_one S (leaving_by_index v e)
