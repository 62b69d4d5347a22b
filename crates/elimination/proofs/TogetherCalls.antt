-- Several loops together over bytes: the tests say what document 02 says, both ways; the loops go one by one too, in every
-- order, and leave the same bytes; and over a chart and labels that pass 57 never comes.
use Prim.Native.Nat.{ℕ}
use mathlib.Core.Path.{◌≡◌, refl, sym, ◌∙◌, ap, ap₂}
use mathlib.Core.Logic.Iff
use mathlib.Core.Logic.{◌≢◌, inl, inr, ⊎_elim, ◌↔◌, by_cases}
use mathlib.Core.Bool.{Bool, cond}
use mathlib.Core.List.Memᴰ
use mathlib.Core.List.Permᴰ
use mathlib.Core.List.{List, [], ◌∷◌, map, Permᴰ}
use native.Mathlib.Omega.{arith}
use lib.ListN.{length}
use Rattle.theory.specs.Charts.{Steps, Loop}
use Rattle.theory.specs.Standing.{Loops, SameLoops}
use Rattle.theory.specs.Orders.{Pair, Listing, Distinct}
use Rattle.theory.specs.Removals.{done}
use Rattle.theory.specs.MultiSteps.{GroupAnswer, single, RemovesTogether, refused, inside, goes}
use Rattle.theory.specs.RemovalTests.{group_answer}
use Rattle.theory.proofs.Tests.{decided, is_false}
use Rattle.theory.proofs.RemovalTests.{group_answer_lem}
use Rattle.theory.proofs.Removals.{one_answer}
use Rattle.theory.proofs.MultiSteps.{pair_same, without_listed, multi_iff, one_group_answer, Apart, together_apart, perm_member}
use Rattle.theory.proofs.MultiSteps.{apart_perm, apart_rest, apart_first, none_inside, goes_chart, chart_goes}
use Rattle.std.specs.Prelude.{Result, Ok, Err}
use Rattle.report.specs.declared.Refusal.{Refusal}
use Rattle.report.specs.declared.Refusal.TheVariants.{StartInside, LoopList}
use Rattle.bits.specs.Bits.{Bytes}
use Rattle.chart.specs.Bodies.{vertices_of, count_of}
use Rattle.chart.specs.Steps.{StepsOf, StandingOf}
use Rattle.chart.specs.Standing.{StandsFor, TakenOut, TakenOutOf}
use Rattle.chart.proofs.Standing.{only?, stands_agree, taken_leaves, taken_stands, one_taken}
use Rattle.elimination.specs.Removals.{removed_as, stands_test, removal_of, left_of, cleared_from, answers_of, left_after}
use Rattle.chart.specs.Refusals.{other_header, faulty_at}
use Rattle.elimination.specs.RemovalAnswers.{Fits, OpeningAnswer, other_chart, other_length, other_standing}
use Rattle.elimination.specs.RemovalAnswers.{LoopRefused, no_entry, breaks_L1, breaks_L2, breaks_L3}
use Rattle.elimination.specs.Together.{loops_of, together_as, group_of, together_of, cleared_all, left_together}
use Rattle.elimination.specs.TogetherAnswers.{LoopListFits, TogetherAnswer, opening, other_list, first_refused, start_inside, taken}
use Rattle.elimination.proofs.Removals.{err_not_ok, tests_stands, standing_formed, standing_labels, opening_stages, on_refusal}
use Rattle.elimination.proofs.Removals.{on_fits_lem, opening_refuses, removal_ruled, cleared_taken, when_refused}
use Rattle.elimination.proofs.Removals.{rule_or, refused_rule, loop_refuses, done_leaves}
use Rattle.elimination.proofs.Lists.{Passing, formed}
use Rattle.elimination.proofs.LoopLists.{listed?, tests_loop_list, fits_taken, nothing_taken, taken_then, taken_same}

-- THE BYTES: the entries of the loops of a list gone, one loop after another
module _ {b labels : List ℕ} where
  taken_none : (before : List ℕ) → TakenOutOf b labels (Listing []) before before
  taken_none = nothing_taken (λ u m i. Memᴰ.not-nil i)

  taken_more : {v l : ℕ} {cs : List Pair} {before between after : List ℕ} → TakenOut b labels v l before between
      → TakenOutOf b labels (Listing cs) between after → TakenOutOf b labels (Listing ((v, l) ∷ cs)) before after
  taken_more {cs = cs} t s = taken_same (λ u m. (
    (λ i. ⊎_elim (λ e. inl (ap (λ (x : Pair). x.0) e, ap (λ (x : Pair). x.1) e)) inr (Memᴰ.cases_cons i)),
    (λ c. ⊎_elim (λ (e, f). Memᴰ.head (pair_same e f)) (λ i. Memᴰ.tail i) c),
  )) (taken_then (listed? cs) t s)

-- what the tests clear
cleared_all_lem : (b labels : List ℕ) (cs : List Pair) (standing : List ℕ) → length standing ≡ count_of b
    → TakenOutOf b labels (Listing cs) standing (cleared_all b labels cs standing)
unfolding cleared_all
cleared_all_lem b labels [] standing long = taken_none standing
cleared_all_lem b labels ((v, l) ∷ cs) standing long =
    let t = cleared_taken b labels v l standing long in
    taken_more t (cleared_all_lem b labels cs (cleared_from b labels v l 0 standing) (t.long ∙ long))

-- THE ANSWER
module _ (b labels loops standing : List ℕ) where
  pub together_refused : {a : Result Unit Refusal} → OpeningAnswer b labels standing a → together_of b labels loops standing ≡ a
  unfolding together_of
  together_refused o = on_refusal b labels standing _ o

  pub together_list : Fits b labels standing → ¬ LoopListFits loops → together_of b labels loops standing ≡ Err LoopList
  unfolding together_of
  together_list f n = on_fits_lem b labels standing _ f ∙
      ap (λ (x : Bool). cond x (group_of b labels (loops_of loops) standing) (Err LoopList)) (is_false (tests_loop_list loops) n)

  together_group : Fits b labels standing → LoopListFits loops
      → together_of b labels loops standing ≡ group_of b labels (loops_of loops) standing
  unfolding together_of
  together_group f l = on_fits_lem b labels standing _ f ∙
      ap (λ (x : Bool). cond x (group_of b labels (loops_of loops) standing) (Err LoopList)) ((tests_loop_list loops).1 l)

  group_says : Bytes labels → Fits b labels standing → RemovesTogether (StandingOf b labels standing) (loops_of loops)
      (group_answer (stands_test b labels standing) (vertices_of b) 256 (loops_of loops))
  group_says B f = group_answer_lem (tests_stands b labels standing) (standing_formed b labels standing f.formed)
      (standing_labels b labels standing B) (loops_of loops)

  pub together_ruled : Bytes labels → Fits b labels standing → LoopListFits loops → {g : GroupAnswer}
      → RemovesTogether (StandingOf b labels standing) (loops_of loops) g → together_of b labels loops standing ≡ together_as g
  unfolding group_of
  together_ruled B f l r = together_group f l ∙ ap together_as (one_group_answer (loops_of loops) (group_says B f) r)

  -- THE BYTES AFTER IT
  left_taken : together_of b labels loops standing ≡ Ok tt
      → left_together b labels loops standing ≡ cleared_all b labels (loops_of loops) standing
  unfolding left_together
  left_taken e = rw e

  pub together_kept : together_of b labels loops standing ≢ (Ok tt) → left_together b labels loops standing ≡ standing
  unfolding left_together
  together_kept n = when_refused (together_of b labels loops standing) n _ standing

  pub together_leaves : Fits b labels standing → together_of b labels loops standing ≡ Ok tt
      → TakenOutOf b labels (Listing (loops_of loops)) standing (left_together b labels loops standing)
  together_leaves f e = rw (left_taken e) (cleared_all_lem b labels (loops_of loops) standing f.marked.long)

  pub together_fits : together_of b labels loops standing ≡ Ok tt → Fits b labels standing
  together_fits e = opening_stages b labels standing (λ a o. absurd (opening_refuses b labels standing o (sym (together_refused o) ∙ e))) (λ f. f)

  -- THE ANSWER AND THE BYTES exactly where document 02 says so
  module _ (B : Bytes labels) where
    abbrev Gives : Result Unit Refusal → List ℕ → Type 0
    Gives x after = (together_of b labels loops standing ≡ x) × (left_together b labels loops standing ≡ after)

    refusing : {x : Result Unit Refusal} → together_of b labels loops standing ≡ x → x ≢ (Ok tt) → Gives x standing
    refusing e n = (e, together_kept (λ z. n (sym e ∙ z)))

    answer_gives : {x : Result Unit Refusal} {after : List ℕ} → TogetherAnswer b labels loops standing x after → Gives x after
    answer_gives (opening o) = refusing (together_refused o) (opening_refuses b labels standing o)
    answer_gives (other_list f n) = refusing (together_list f n) err_not_ok
    answer_gives (first_refused f l h before x) =
        let (a, r, e) = refused_rule x in
        let n : a ≢ done = λ z. loop_refuses x (sym e ∙ ap removed_as z) in
        refusing (together_ruled B f l (refused h (λ j k. chart_goes (before j k)) r n) ∙ e) (loop_refuses x)
    answer_gives (start_inside f l each s) =
        refusing (together_ruled B f l (inside (λ i h. chart_goes (each i h)) s)) err_not_ok
    answer_gives (taken f l m t) =
        let e = together_ruled B f l (multi_iff.0 m).1 in
        (e, one_taken (listed? (loops_of loops)) f.marked.long (together_leaves f e) t)

    -- some answer is meant
    abbrev Answered : Type 0
    Answered = TogetherAnswer b labels loops standing (together_of b labels loops standing) (left_together b labels loops standing)

    given : {x : Result Unit Refusal} {after : List ℕ} → TogetherAnswer b labels loops standing x after → Answered
    given h = let (e, f) = answer_gives h in rw (e, f) h

    ruled_answer : Fits b labels standing → LoopListFits loops → {g : GroupAnswer}
        → RemovesTogether (StandingOf b labels standing) (loops_of loops) g → Answered
    ruled_answer f l (refused h before r n) =
        ⊎_elim (λ c. absurd (n (one_answer r (chart_goes c))))
        (λ x. given (first_refused f l h (λ j k. goes_chart (before j k)) x)) (rule_or r)
    ruled_answer f l (inside each s) = given (start_inside f l (λ i h. goes_chart (each i h)) s)
    ruled_answer f l (goes each n) =
        let t = cleared_all_lem b labels (loops_of loops) standing f.marked.long in
        let R = StandingOf b labels standing in
        given (taken f l (multi_iff.1 (
          l.once,
          goes each n,
          λ u m w. Iff.trans (taken_leaves (listed? (loops_of loops)) t u m w) (Iff.symm (without_listed R (loops_of loops) u m w)),
        )) t)

    together_answer : Answered
    together_answer =
        opening_stages b labels standing (λ a o. given (opening o))
        (λ f. by_cases (decided (tests_loop_list loops)) (λ l. ruled_answer f l (group_says B f)) (λ n. given (other_list f n)))

    pub together_says : (x : Result Unit Refusal) (after : List ℕ)
        → ((together_of b labels loops standing ≡ x) × (left_together b labels loops standing ≡ after))
        ↔ TogetherAnswer b labels loops standing x after
    together_says x after = ((λ (e, f). rw (e, f) at together_answer), answer_gives)

    -- done: what is asked passes, and the loops go together
    pub together_done : together_of b labels loops standing ≡ Ok tt
        → Fits b labels standing × LoopListFits loops × RemovesTogether (StandingOf b labels standing) (loops_of loops) (single done)
    together_done e = go together_answer e
      where
        go : {a : Result Unit Refusal} {after : List ℕ} → TogetherAnswer b labels loops standing a after → a ≡ Ok tt
            → Fits b labels standing × LoopListFits loops × RemovesTogether (StandingOf b labels standing) (loops_of loops) (single done)
        go (opening o) z = absurd (opening_refuses b labels standing o z)
        go (other_list f n) z = absurd (err_not_ok z)
        go (first_refused f l h before x) z = absurd (loop_refuses x z)
        go (start_inside f l each s) z = absurd (err_not_ok z)
        go (taken f l m t) z = (f, l, (multi_iff.0 m).1)

-- WHAT THE CALL LEAVES, by its answer
module _ (b labels loops standing : List ℕ) where
  pub all_cleared : {after : List ℕ} → together_of b labels loops standing ≡ Ok tt
      → TakenOutOf b labels (Listing (loops_of loops)) standing after → after ≡ left_together b labels loops standing
  all_cleared e t = let f = together_fits b labels loops standing e in
      one_taken (listed? (loops_of loops)) f.marked.long t (together_leaves b labels loops standing f e)

  pub all_kept : {p : Refusal} → together_of b labels loops standing ≡ Err p → standing ≡ left_together b labels loops standing
  all_kept e = sym (together_kept b labels loops standing (λ z. err_not_ok (sym e ∙ z)))

-- ONE BY ONE, in the order of a list whose loops do not disturb each other
module _ (b labels : List ℕ) (B : Bytes labels) where
  apart_calls : (cs : List Pair) (standing : List ℕ) → Fits b labels standing → Apart (StandingOf b labels standing) cs
      → (answers_of b labels cs standing ≡ map (λ c. (Ok tt)) cs)
      × TakenOutOf b labels (Listing cs) standing (left_after b labels cs standing)
  unfolding answers_of left_after
  apart_calls [] standing f a = (refl, taken_none standing)
  apart_calls ((v, l) ∷ cs) standing f a =
      let e : removal_of b labels v l standing ≡ (Ok tt) = removal_ruled b labels v l standing B f (apart_first a) in
      let t = done_leaves b labels v l standing e in
      let (g, s) = apart_calls cs (left_of b labels v l standing) (fits_taken (only? v l) t f)
      (apart_rest a (taken_leaves (only? v l) t)) in
      (ap₂ ◌∷◌ e g, taken_more t s)

  -- A LIST THAT IS DONE leaves the same bytes as its loops one by one, in every order, none refused
  pub together_singles : (loops standing : List ℕ) {ds : List Pair} → together_of b labels loops standing ≡ Ok tt
      → Permᴰ (loops_of loops) ds
      → (answers_of b labels ds standing ≡ map (λ c. (Ok tt)) ds)
      × (left_after b labels ds standing ≡ left_together b labels loops standing)
  together_singles loops standing {ds} e p =
      let (f, l, r) = together_done b labels loops standing B e in
      let (g, s) = apart_calls ds standing f (apart_perm p (together_apart l.once r)) in
      let same : SameLoops (Listing (loops_of loops)) (Listing ds) = λ u m. (perm_member p, perm_member (Permᴰ.symm p)) in
      (g, one_taken (listed? (loops_of loops)) f.marked.long (taken_same same s) (together_leaves b labels loops standing f e))

-- WHERE THE BYTES STAND FOR A SET OF LOOPS, a list that is done leaves them standing for those not in the list
pub together_stands : (b labels loops : List ℕ) {standing : List ℕ} {X : Loops} → Bytes labels → StandsFor b labels standing X
    → together_of b labels loops standing ≡ Ok tt
    → StandsFor b labels (left_together b labels loops standing) (λ v l. X v l × ¬ Listing (loops_of loops) v l)
together_stands b labels loops {standing} B h e =
    let (f, l, r) = together_done b labels loops standing B e in
    taken_stands (listed? (loops_of loops)) (together_leaves b labels loops standing f e)
    (λ v m i. ((together_apart l.once r).charts (v, m) i).loop.0) h

-- AN EMPTY LIST is done and leaves every byte
pub empty_together : (b labels standing : List ℕ) → Bytes labels → Fits b labels standing
    → (together_of b labels [] standing ≡ Ok tt) × (left_together b labels [] standing ≡ standing)
unfolding loops_of cleared_all
empty_together b labels standing B f =
    let l : LoopListFits [] = record { even = omega arith; short = omega arith; once = Distinct.none } in
    let r : RemovesTogether (StandingOf b labels standing) [] (single done) =
    goes (λ i h. absurd (omega (arith, h))) (λ p s. absurd (omega (arith, s.0))) in
    let e = together_ruled b labels [] standing B f l r in
    (e, left_taken b labels [] standing e)

-- neither an opening's refusal nor a loop's is 57
opening_not_57 : {b labels standing : List ℕ} {x : Result Unit Refusal} → OpeningAnswer b labels standing x
    → (p : ℕ) → x ≢ Err (StartInside p)
opening_not_57 (other_chart (other_header n)) p e = let z : ◌≡◌ {A = ℕ} 0 1 = cc in omega arith
opening_not_57 (other_chart (faulty_at h l)) p e = let z : ◌≡◌ {A = ℕ} 0 1 = cc in omega arith
opening_not_57 (other_length w n) p e = let z : ◌≡◌ {A = ℕ} 0 1 = cc in omega arith
opening_not_57 (other_standing w h n) p e = let z : ◌≡◌ {A = ℕ} 0 1 = cc in omega arith

loop_not_57 : {R : Steps} {v l : ℕ} {x : Result Unit Refusal} → LoopRefused R v l x → (p : ℕ) → x ≢ Err (StartInside p)
loop_not_57 (no_entry h) p e = let z : ◌≡◌ {A = ℕ} 0 1 = cc in omega arith
loop_not_57 (breaks_L1 o h) p e = let z : ◌≡◌ {A = ℕ} 0 1 = cc in omega arith
loop_not_57 (breaks_L2 o q h) p e = let z : ◌≡◌ {A = ℕ} 0 1 = cc in omega arith
loop_not_57 (breaks_L3 o q r h) p e = let z : ◌≡◌ {A = ℕ} 0 1 = cc in omega arith

-- OVER A CHART AND LABELS THAT PASS, while the loops of X remain, 57 never comes
pub passing_not_57 : {b labels : List ℕ} → Passing b labels → {standing : List ℕ} {X : Loops}
    → ((v l : ℕ) → X v l → Loop (StepsOf b labels) v l) → StandsFor b labels standing X
    → (loops : List ℕ) (p : ℕ) → together_of b labels loops standing ≢ Err (StartInside p)
passing_not_57 {b} {labels} c {standing} loops-of h loops p e = go (together_answer b labels loops standing c.bytes) e
  where
    go : {x : Result Unit Refusal} {after : List ℕ} → TogetherAnswer b labels loops standing x after → x ≢ Err (StartInside p)
    go (opening o) z = opening_not_57 o p z
    go (other_list f n) z = let w : ◌≡◌ {A = ℕ} 0 1 = cc in omega arith
    go (first_refused f l i before r) z = loop_not_57 r p z
    go (start_inside f l each s) z =
        none_inside (formed c) c.passed loops-of (stands_agree h) (loops_of loops) (λ i k. chart_goes (each i k)) _ s.holds
    go (taken f l m t) z = let w : ◌≡◌ {A = ℕ} 0 1 = cc in omega arith
