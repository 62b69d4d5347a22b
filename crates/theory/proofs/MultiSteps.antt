-- Several loops out together: the answer is 000's multi-step removal; its loops go one by one too, in every order, and leave
-- the same; and over a chart that passed no start is inside another's body where each loop goes by itself.
use mathlib.Core.Path.{◌≡◌, refl, sym, ◌∙◌, ap, ap₂, subst}
use mathlib.Core.Logic.Iff
use mathlib.Core.Logic.{◌≢◌, ⊎_elim, ◌↔◌, by_cases}
use mathlib.Core.List.{List, [], ◌∷◌, Memᴰ}
use mathlib.Core.List.Permᴰ
use mathlib.Core.List.{Permᴰ}
use Prim.Native.Nat.{ℕ, zero, suc, ◌<◌}
use native.Mathlib.Omega.{arith}
use native.Mathlib.Decide.{ℕ_discrete, dec_lt}
use lib.ListN.{length}
use Rattle.theory.specs.Paths.{Star}
use Rattle.theory.specs.Charts.{Steps, SameSteps, Formed, Loop}
use Rattle.theory.specs.LoopCharts.{entry, other, Around}
use Rattle.theory.specs.Checks.{Passed}
use Rattle.theory.specs.Standing.{Loops, Agree, Inside}
use Rattle.theory.specs.Orders.{Pair, Listing, Distinct, none, one}
use Rattle.theory.specs.Removals.{Answer, done, Removes, Different, left_steps, RemovesAll, all_done}
use Rattle.theory.specs.MultiSteps.{loop_at, EntryOf, LoopSubchart, InBodyOf, MultiStep, GroupAnswer, single, refused_57}
use Rattle.theory.specs.MultiSteps.{RemovesAt, EachGoes, StartInside, RemovesTogether, refused, inside, goes}
use Rattle.theory.proofs.Paths.{plus_star, plus_map, star_apart}
use Rattle.theory.proofs.Search.{least_one}
use Rattle.theory.proofs.Pairs.{distinct_cons}
use Rattle.theory.proofs.Rounds.{round_map, loop_chart_agree}
use Rattle.theory.proofs.Removal.{takeable_iff, taken_reaches}
use Rattle.theory.proofs.Removals.{one_answer, remains, same}

-- PLACES AND MEMBERS
pub pair_same : {c d : Pair} → c.0 ≡ d.0 → c.1 ≡ d.1 → c ≡ d
pair_same e f = ap₂ (λ (a b : ℕ). (a, b)) e f

pub at_member : (cs : List Pair) (i : ℕ) → i < length cs → Memᴰ (loop_at cs i) cs
at_member [] i h = absurd (omega arith)
at_member (c ∷ cs) zero h = mathlib.Core.List.Memᴰ.head refl
at_member (c ∷ cs) (suc i) h = mathlib.Core.List.Memᴰ.tail (at_member cs i (omega arith))

pub member_at : {c : Pair} {cs : List Pair} → Memᴰ c cs → (i : ℕ) × (i < length cs) × (loop_at cs i ≡ c)
member_at (mathlib.Core.List.Memᴰ.head e) = (0, omega arith, sym e)
member_at (mathlib.Core.List.Memᴰ.tail m) = let (i, h, e) = member_at m in (suc i, omega arith, e)

pub distinct_at : {cs : List Pair} → Distinct cs → (i j : ℕ) → i < length cs → j < length cs → i ≢ j → loop_at cs i ≢ loop_at cs j
distinct_at none i j h k n e = absurd (omega arith)
distinct_at (one g d) zero zero h k n e = n refl
distinct_at (one {xs = xs} g d) zero (suc j) h k n e = g (mathlib.Core.List.Memᴰ.cast e (at_member xs j (omega arith)))
distinct_at (one {xs = xs} g d) (suc i) zero h k n e = g (mathlib.Core.List.Memᴰ.cast (sym e) (at_member xs i (omega arith)))
distinct_at (one g d) (suc i) (suc j) h k n e = distinct_at d i j (omega arith) (omega arith) (λ z. n (ap suc z)) e

pub at_distinct : (cs : List Pair) → ((i j : ℕ) → i < length cs → j < length cs → i ≢ j → loop_at cs i ≢ loop_at cs j) → Distinct cs
at_distinct [] h = none
at_distinct (c ∷ cs) h = one
    (λ (m : Memᴰ c cs). let (i, g, e) = member_at m in h (suc i) 0 (omega arith) (omega arith) (omega arith) e)
    (at_distinct cs (λ i j g k n. h (suc i) (suc j) (omega arith) (omega arith) (λ z. n (omega arith))))

-- REMOVED BY ITSELF exactly when it is a loop sub-chart
pub goes_chart : {R : Steps} {c : Pair} → Removes R c.0 c.1 done → LoopSubchart R c
goes_chart (Removes.goes o h) = record { loop = o; chart = h }

pub chart_goes : {R : Steps} {c : Pair} → LoopSubchart R c → Removes R c.0 c.1 done
chart_goes h = Removes.goes h.loop h.chart

-- THE ANSWER IS 000'S: done exactly for a list with no loop twice whose loops go together
together_goes : {R : Steps} {cs : List Pair} → RemovesTogether R cs (single done) → EachGoes R cs × ((p : ℕ) → ¬ StartInside R cs p)
together_goes (refused h b r n) = absurd (n refl)
together_goes (goes e n) = (e, n)

-- what is left
abbrev pub WithoutAll : Steps → List Pair → Steps
WithoutAll R cs u l w = R u l w × ((i : ℕ) → i < length cs → ¬ EntryOf R (loop_at cs i) u l w)

-- by place or by member
pub without_listed : (R : Steps) (cs : List Pair) → SameSteps (WithoutAll R cs) (λ u l w. R u l w × ¬ Listing cs u l)
without_listed R cs u l w = (
  (λ (x, n). (x, λ m. let (i, h, e) = member_at m in n i h (ap (λ (c : Pair). c.0) (sym e), ap (λ (c : Pair). c.1) (sym e), x))),
  (λ (x, n). (x, λ i h (a, b, y). n (mathlib.Core.List.Memᴰ.cast (pair_same a b) (at_member cs i h)))),
)

module _ {R Q : Steps} {cs : List Pair} where
  multi_once : MultiStep R cs Q → Distinct cs
  multi_once m = at_distinct cs (λ i j h k n e.
      let (p, w, s) = (m.subcharts i h).loop in
      m.disjoint i j h k n (loop_at cs i).0 (loop_at cs i).1 w
      ((refl, refl, s), (ap (λ (c : Pair). c.0) e, ap (λ (c : Pair). c.1) e, s)))

  pub multi_iff : MultiStep R cs Q ↔ (Distinct cs × RemovesTogether R cs (single done) × SameSteps Q (WithoutAll R cs))
  multi_iff = (
    (λ m. (
      multi_once m,
      goes (λ i h. chart_goes (m.subcharts i h)) (λ p (h, (j, k, n, b)). m.outside p j h k (λ e. n (sym e)) b),
      m.results,
    )),
    (λ (d, t, s). let (e, n) = together_goes t in record {
      subcharts = λ i h. goes_chart (e i h);
      disjoint = λ i j h k g u l w ((a, b, x), (a', b', y)). distinct_at d i j h k g (pair_same (sym a ∙ a') (sym b ∙ b'));
      outside = λ i j h k g b. n i (h, (j, k, (λ z. g (sym z)), b));
      results = s;
    }),
  )

-- THERE IS ONE ANSWER
module _ {R : Steps} (cs : List Pair) where
  not_each : {i : ℕ} {a : Answer} → i < length cs → RemovesAt R cs i a → a ≢ done → ¬ EachGoes R cs
  not_each h r n e = n (one_answer r (e _ h))

  pub one_group_answer : {a b : GroupAnswer} → RemovesTogether R cs a → RemovesTogether R cs b → a ≡ b
  one_group_answer (refused {i = i} {a = a} h before r n) (refused {i = j} {a = b} k earlier q m) =
      by_cases (dec_lt i j) (λ l. absurd (n (one_answer r (earlier i l))))
      (λ g. by_cases (dec_lt j i) (λ l. absurd (m (one_answer q (before j l))))
      (λ f. let e : i ≡ j = omega arith in ap single (one_answer r (subst (λ (k : ℕ). RemovesAt R cs k b) (sym e) q))))
  one_group_answer (refused h before r n) (inside e l) = absurd (not_each h r n e)
  one_group_answer (refused h before r n) (goes e l) = absurd (not_each h r n e)
  one_group_answer (inside e l) (refused h before r n) = absurd (not_each h r n e)
  one_group_answer (inside e l) (inside f m) = ap refused_57 (least_one l m)
  one_group_answer (inside e l) (goes f n) = absurd (n _ l.holds)
  one_group_answer (goes e l) (refused h before r n) = absurd (not_each h r n e)
  one_group_answer (goes e l) (inside f m) = absurd (l _ m.holds)
  one_group_answer (goes e l) (goes f n) = refl

-- IN EVERY ORDER
-- what lets the loops of a list go in any order, said of its members
pub record Apart (R : Steps) (cs : List Pair) : Type 0 where
  pub once : Distinct cs
  pub charts : (c : Pair) → Memᴰ c cs → LoopSubchart R c
  pub outside : (c d : Pair) → Memᴰ c cs → Memᴰ d cs → ¬ InBodyOf R d c.0

pub together_apart : {R : Steps} {cs : List Pair} → Distinct cs → RemovesTogether R cs (single done) → Apart R cs
together_apart {R} {cs} d t = let (each, n) = together_goes t in record {
  once = d;
  charts = λ c m. let (i, h, e) = member_at m in subst (LoopSubchart R) e (goes_chart (each i h));
  outside = λ c x m k b.
      let (i, h, e) = member_at m in
      let (j, g, f) = member_at k in
      by_cases (ℕ_discrete j i)
      (λ z. b.0 (ap (λ (y : Pair). y.0) (sym e ∙ ap (loop_at cs) (sym z) ∙ f)))
      (λ z. n i (h, (j, g, z, rw (e, f) b)));
}

pub perm_member : {c : Pair} {cs ds : List Pair} → Permᴰ cs ds → Memᴰ c cs → Memᴰ c ds
perm_member Permᴰ.nil m = m
perm_member (Permᴰ.cons e d) m = ⊎_elim (λ z. mathlib.Core.List.Memᴰ.head (z ∙ e)) (λ k. mathlib.Core.List.Memᴰ.tail (perm_member d k)) (mathlib.Core.List.Memᴰ.cases_cons m)
perm_member (Permᴰ.swap e f) m =
    ⊎_elim (λ z. mathlib.Core.List.Memᴰ.tail (mathlib.Core.List.Memᴰ.head (z ∙ e)))
    (λ k. ⊎_elim (λ z. mathlib.Core.List.Memᴰ.head (z ∙ f)) (λ i. mathlib.Core.List.Memᴰ.tail (mathlib.Core.List.Memᴰ.tail i)) (mathlib.Core.List.Memᴰ.cases_cons k)) (mathlib.Core.List.Memᴰ.cases_cons m)
perm_member (Permᴰ.trans d e) m = perm_member e (perm_member d m)

perm_distinct : {cs ds : List Pair} → Permᴰ cs ds → Distinct cs → Distinct ds
perm_distinct Permᴰ.nil d = d
perm_distinct (Permᴰ.cons e p) d =
    let (h, g) = distinct_cons d in one (λ m. h (mathlib.Core.List.Memᴰ.cast e (perm_member (Permᴰ.symm p) m))) (perm_distinct p g)
perm_distinct (Permᴰ.swap e f) d =
    let (h, g) = distinct_cons d in
    let (k, i) = distinct_cons g in
    one (λ m. ⊎_elim (λ z. h (mathlib.Core.List.Memᴰ.head (e ∙ sym z ∙ sym f))) (λ n. k (mathlib.Core.List.Memᴰ.cast f n)) (mathlib.Core.List.Memᴰ.cases_cons m))
    (one (λ m. h (mathlib.Core.List.Memᴰ.tail (mathlib.Core.List.Memᴰ.cast e m))) i)
perm_distinct (Permᴰ.trans p q) d = perm_distinct q (perm_distinct p d)

pub apart_perm : {R : Steps} {cs ds : List Pair} → Permᴰ cs ds → Apart R cs → Apart R ds
apart_perm p a = record {
  once = perm_distinct p a.once;
  charts = λ c m. a.charts c (perm_member (Permᴰ.symm p) m);
  outside = λ c d m k. a.outside c d (perm_member (Permᴰ.symm p) m) (perm_member (Permᴰ.symm p) k);
}

-- the first goes, and what it leaves lets the others go: their charts do not use its entries
module _ {R Q : Steps} {c : Pair} {cs : List Pair} (a : Apart R (c ∷ cs)) (left : SameSteps Q (left_steps done c.0 c.1 R)) where
  fewer : (d : Pair) (u w : ℕ) → Around Q d.0 d.1 u w → Around R d.0 d.1 u w
  fewer d = round_map (λ w e. ((left _ _ w).0 e).0) (λ u w (l, e). (l, ((left u l w).0 e).0))

  module _ (d : Pair) (m : Memᴰ d cs) where
    differs : Different c.0 c.1 d.0 d.1
    differs (e, f) = (distinct_cons a.once).0 (mathlib.Core.List.Memᴰ.cast (pair_same (sym e) (sym f)) m)

    unused : (u w : ℕ) → Star (Around R d.0 d.1) d.0 u → Around R d.0 d.1 u w ↔ Around Q d.0 d.1 u w
    unused u w p = (to p, fewer d u w)
      where
        to : {x : ℕ} → Star (Around R d.0 d.1) d.0 x → Around R d.0 d.1 x w → Around Q d.0 d.1 x w
        to q (entry e) = entry ((left _ _ w).1 (e, differs))
        to {x} q (other n (l, e)) = other n (
          l,
          (left _ l w).1 (
            e,
            λ (z, f).
                a.outside c d (mathlib.Core.List.Memᴰ.head refl) (mathlib.Core.List.Memᴰ.tail m)
                (subst (InBodyOf R d) z (n, star_apart q n)),
          ),
        )

    chart_stays : LoopSubchart Q d
    chart_stays = let s = a.charts d (mathlib.Core.List.Memᴰ.tail m) in record {
      loop = let (h, w, e) = s.loop in (h, w, (left _ _ w).1 (e, differs));
      chart = loop_chart_agree unused s.chart;
    }

  pub apart_rest : Apart Q cs
  apart_rest = record {
    once = (distinct_cons a.once).1;
    charts = chart_stays;
    outside = λ d x m k (n, p). a.outside d x (mathlib.Core.List.Memᴰ.tail m) (mathlib.Core.List.Memᴰ.tail k) (n, plus_map (fewer x) p);
  }

pub apart_first : {R : Steps} {c : Pair} {cs : List Pair} → Apart R (c ∷ cs) → Removes R c.0 c.1 done
apart_first a = chart_goes (a.charts _ (mathlib.Core.List.Memᴰ.head refl))

apart_runs : {R : Steps} (cs : List Pair) → Apart R cs
    → (Q : Steps) × RemovesAll R cs (all_done cs) Q × SameSteps Q (λ u l w. R u l w × ¬ Listing cs u l)
apart_runs {R} [] a = (R, RemovesAll.none, λ u l w. ((λ e. (e, mathlib.Core.List.Memᴰ.not-nil)), (λ e. e.0)))
apart_runs {R} (c ∷ cs) a =
    let (Q, r, s) = apart_runs {R = left_steps done c.0 c.1 R} cs (apart_rest a (λ u l w. Iff.rfl)) in (
      Q,
      RemovesAll.call (apart_first a) (λ u l w. Iff.rfl) r,
      λ u l w. (
        (λ e. let ((x, d), n) = (s u l w).0 e in
            (x, λ m. ⊎_elim (λ (z : (u, l) ≡ c). d (ap (λ (y : Pair). y.0) z, ap (λ (y : Pair). y.1) z)) n (mathlib.Core.List.Memᴰ.cases_cons m))),
        (λ (x, n). (s u l w).1 ((x, λ (e, f). n (mathlib.Core.List.Memᴰ.head (pair_same e f))), λ m. n (mathlib.Core.List.Memᴰ.tail m))),
      ),
    )

-- AS THE PROOF OF 000'S LEMMA 4.6 HAS IT, whatever the order: one by one none is refused, and the same is left
pub multi_singles : {R Q : Steps} {cs ds : List Pair} → MultiStep R cs Q → Permᴰ cs ds
    → (Z : Steps) × RemovesAll R ds (all_done ds) Z × SameSteps Z Q
multi_singles {R} {Q} {cs} {ds} m p =
    let (d, t, s) = multi_iff.0 m in
    let (Z, r, z) = apart_runs ds (apart_perm p (together_apart d t)) in (
      Z,
      r,
      λ u l w. (
        (λ e. let (x, n) = (z u l w).0 e in (s u l w).1 ((without_listed R cs u l w).1 (x, λ k. n (perm_member p k)))),
        (λ e. let (x, n) = (without_listed R cs u l w).0 ((s u l w).0 e) in (z u l w).1 (x, λ k. n (perm_member (Permᴰ.symm p) k))),
      ),
    )

-- OVER A CHART THAT PASSED, while the loops of X remain, a loop with a start inside does not go by itself
pub none_inside : {size : ℕ} {S : Steps} → Formed size S → Passed S → {X : Loops} {R : Steps}
    → ((v l : ℕ) → X v l → Loop S v l) → Agree S X R → (cs : List Pair) → EachGoes R cs → (p : ℕ) → ¬ StartInside R cs p
none_inside {S = S} formed passed {X} {R} loops agree cs each p (h, (j, k, n, (g, b))) =
    let c : Pair = loop_at cs j in
    let d : Pair = loop_at cs p in
    let s : LoopSubchart R c = goes_chart (each j k) in
    let x : X c.0 c.1 = remains formed passed loops agree _ _ s.loop in
    let y : X d.0 d.1 = remains formed passed loops agree _ _ (goes_chart (each p h)).loop in
    let around = same formed passed loops agree c.0 c.1 in
    let out : ¬ Inside S X c.0 c.1 =
    (takeable_iff formed passed X loops _ _ x).0 (loop_chart_agree (λ u w q. around u w) s.chart) in
    out (_, _, y, g, star_apart (taken_reaches formed passed X loops _ _ x out (plus_star (plus_map (λ u w. (around u w).0) b))) g)
