-- The tests of a removal say what document 01 says, both ways; and what a call leaves of the standing bytes.
use Prim.Native.Nat.{ℕ, zero, suc, ◌+◌, ◌<◌}
use mathlib.Core.Path.{◌≡◌, refl, sym, ◌∙◌, ap}
use mathlib.Core.Logic.{◌≢◌, ◌⊎◌, inl, inr, ⊎_elim, ◌↔◌, by_cases}
use mathlib.Core.Bool.{Bool, cond, ◌&&◌}
use mathlib.Core.List.{List, [], ◌∷◌}
use native.Mathlib.Decide.{ℕ_discrete, dec_le}
use native.Mathlib.Omega.{arith}
use lib.Dec.{eqb}
use lib.ListN.{length, get_or}
use borrow.Author.Tests.{eq-eqb, ne_eqb}
use Rattle.theory.specs.Charts.{Steps, Formed}
use Rattle.theory.specs.Removals.{Answer, refused_51, refused_52, Removes}
use Rattle.theory.specs.MultiSteps.{LoopSubchart}
use Rattle.theory.specs.Tests.{Decides}
use Rattle.theory.specs.RemovalTests.{rule_answer}
use Rattle.theory.proofs.Tests.{decided, is_false, decides_same, decides_and, decides_not, decides_eqb, decides_ltb, decides_below}
use Rattle.theory.proofs.RemovalTests.{rule_answer_lem}
use Rattle.theory.proofs.Removals.{one_answer}
use Rattle.theory.proofs.MultiSteps.{chart_goes}
use Rattle.std.specs.Prelude.{Result, Ok, Err}
use Rattle.report.specs.declared.Refusal.{Refusal}
use Rattle.bits.specs.Bits.{Bytes}
use Rattle.chart.specs.Bodies.{vertices_of, count_of, from_of, to_of, WellFormed}
use Rattle.chart.specs.Checks.{check_of}
use Rattle.chart.specs.Steps.{StandingOf}
use Rattle.chart.specs.Standing.{TakenOut}
use Rattle.chart.proofs.Checks.{well_formed, passes}
use Rattle.chart.proofs.Refusals.{chart_refused}
use Rattle.chart.proofs.Relations.{steps_formed, steps_listed, standing_step}
use Rattle.chart.proofs.Standing.{only?, one_taken}
use Rattle.report.specs.Stages.{when_done}
use Rattle.elimination.specs.Removals.{removed_as, standing_test, on_fits, stands_test, ruled_of, removal_of, cleared_from, left_of}
use Rattle.elimination.specs.RemovalAnswers.{StandingFits, Fits, OpeningAnswer, other_chart, other_length}
use Rattle.elimination.specs.RemovalAnswers.{other_standing, LoopRefused, no_entry, breaks_L1, breaks_L2, breaks_L3}
use Rattle.elimination.specs.RemovalAnswers.{RemovalAnswer, opening, refused, taken}

-- a refusal is not done
pub err_not_ok : {p : Refusal} → ◌≢◌ {A = Result Unit Refusal} (Err p) (Ok tt)
err_not_ok e = let z : ◌≡◌ {A = ℕ} 0 1 = cc in omega arith

-- the test of 50 decides what 50 asks
pub tests_standing : (b standing : List ℕ) → Decides (standing_test b standing) (StandingFits b standing)
unfolding standing_test
tests_standing b standing =
    decides_same (
      (λ (long, none). record {
        long = long;
        marks = λ i h. by_cases (dec_le (get_or standing i 0) 1) (λ l. l) (λ l. absurd (none (i, h, omega arith)));
      }),
      (λ f. (f.long, λ (i, h, l). omega (arith, f.marks i h))),
    )
    (decides_and (decides_eqb (length standing) (count_of b))
    (decides_not (decides_below (λ i. decides_ltb 1 (get_or standing i 0)) (count_of b))))

module _ (b labels standing : List ℕ) where
  -- the test of a transition decides which stand
  pub tests_stands : (u l w : ℕ) → Decides (stands_test b labels standing u l w) (StandingOf b labels standing u l w)
  unfolding stands_test
  tests_stands u l w =
      decides_same (
        (λ (i, h, (p, (q, (r, s)))). record { at = i; within = h; leaves = p; enters = r; holds = record { label = q; stands = s } }),
        (λ s. (s.at, s.within, (s.leaves, (s.holds.label, (s.enters, s.holds.stands))))),
      )
      (decides_below (λ i.
      decides_and (decides_eqb (from_of b i) u)
      (decides_and (decides_eqb (get_or labels i 0) l)
      (decides_and (decides_eqb (to_of b i) w) (decides_eqb (get_or standing i 0) 1)))) (count_of b))

  -- what stands is a chart's
  pub standing_formed : WellFormed b → Formed (vertices_of b) (StandingOf b labels standing)
  standing_formed W = record {
    from_vertex = λ u l w s. (steps_formed b labels W).from_vertex u l w (standing_step s);
    to_vertex = λ u l w s. (steps_formed b labels W).to_vertex u l w (standing_step s);
  }

  pub standing_low : WellFormed b → (u l w : ℕ) → StandingOf b labels standing u l w → w < 128
  standing_low W u l w s = omega (arith, (standing_formed W).to_vertex u l w s, W.header.vertices_high)

  pub standing_labels : Bytes labels → (u l w : ℕ) → StandingOf b labels standing u l w → l < 256
  standing_labels B u l w s = (steps_listed b labels B).label_below u l w (standing_step s)

-- 20, 21, 30 AND 50: one of them refuses, or all pass
module _ (b labels standing : List ℕ) where
  pub opening_stages : {A : Type 0} → ((a : Result Unit Refusal) → OpeningAnswer b labels standing a → A) → (Fits b labels standing → A) → A
  opening_stages {A} refuse fits = go (check_of b) refl
    where
      go : (x : Result Unit Refusal) → check_of b ≡ x → A
      go (Ok _) c =
          by_cases (ℕ_discrete (length labels) (count_of b))
          (λ h. by_cases (decided (tests_standing b standing))
          (λ s. fits (record { formed = well_formed b c; each = h; marked = s }))
          (λ n. refuse _ (other_standing (well_formed b c) h n)))
          (λ n. refuse _ (other_length (well_formed b c) n))
      go (Err p) c = refuse _ (other_chart ((chart_refused b p).0 c))

  -- the answer of a call that asks them first
  module _ (a : Result Unit Refusal) where
    pub on_refusal : {x : Result Unit Refusal} → OpeningAnswer b labels standing x → on_fits b labels standing a ≡ x
    on_refusal (other_chart r) = rw ((chart_refused b _).1 r)
    on_refusal (other_length W n) = rw (passes b W, ne_eqb (length labels) (count_of b) n)
    on_refusal (other_standing W h n) =
        rw (passes b W, eq-eqb (length labels) (count_of b) h, is_false (tests_standing b standing) n)

    pub on_fits_lem : Fits b labels standing → on_fits b labels standing a ≡ a
    on_fits_lem f = rw (passes b f.formed, eq-eqb (length labels) (count_of b) f.each, (tests_standing b standing).1 f.marked)

  -- none of them is done
  pub opening_refuses : {a : Result Unit Refusal} → OpeningAnswer b labels standing a → a ≢ (Ok tt)
  opening_refuses (other_chart r) = err_not_ok
  opening_refuses (other_length W n) = err_not_ok
  opening_refuses (other_standing W h n) = err_not_ok

-- 51 AND 52: one of them is the rule's answer, or it is done
module _ {R : Steps} {v l : ℕ} where
  pub rule_or : {a : Answer} → Removes R v l a → LoopSubchart R (v, l) ⊎ LoopRefused R v l (removed_as a)
  rule_or (Removes.absent h) = inr (no_entry h)
  rule_or (Removes.goes o c) = inl (record { loop = o; chart = c })
  rule_or (Removes.breaks_L1 o h) = inr (breaks_L1 o h)
  rule_or (Removes.breaks_L2 o e h) = inr (breaks_L2 o e h)
  rule_or (Removes.breaks_L3 o e r h) = inr (breaks_L3 o e r h)

  pub refused_rule : {x : Result Unit Refusal} → LoopRefused R v l x → (a : Answer) × Removes R v l a × (removed_as a ≡ x)
  refused_rule (no_entry h) = (refused_51 v l, Removes.absent h, refl)
  refused_rule (breaks_L1 o h) = (refused_52 v l 1, Removes.breaks_L1 o h, refl)
  refused_rule (breaks_L2 o e h) = (refused_52 v l 2, Removes.breaks_L2 o e h, refl)
  refused_rule (breaks_L3 o e r h) = (refused_52 v l 3, Removes.breaks_L3 o e r h, refl)

  pub loop_refuses : {x : Result Unit Refusal} → LoopRefused R v l x → x ≢ (Ok tt)
  loop_refuses (no_entry h) = err_not_ok
  loop_refuses (breaks_L1 o h) = err_not_ok
  loop_refuses (breaks_L2 o p h) = err_not_ok
  loop_refuses (breaks_L3 o p r h) = err_not_ok

-- THE ANSWER to (v, l)
module _ (b labels : List ℕ) (v l : ℕ) (standing : List ℕ) where
  pub removal_refused : {a : Result Unit Refusal} → OpeningAnswer b labels standing a → removal_of b labels v l standing ≡ a
  unfolding removal_of
  removal_refused o = on_refusal b labels standing _ o

  removal_fits : Fits b labels standing → removal_of b labels v l standing ≡ ruled_of b labels v l standing
  unfolding removal_of
  removal_fits f = on_fits_lem b labels standing _ f

  -- DONE, 51 AND 52: where the rest passes, the answer is the rule's
  rule_says : Bytes labels → WellFormed b
      → Removes (StandingOf b labels standing) v l (rule_answer (stands_test b labels standing) (vertices_of b) 256 v l)
  rule_says B W =
      rule_answer_lem (tests_stands b labels standing) (standing_formed b labels standing W)
      (standing_labels b labels standing B) v l

  pub removal_ruled : Bytes labels → Fits b labels standing → {a : Answer} → Removes (StandingOf b labels standing) v l a
      → removal_of b labels v l standing ≡ removed_as a
  unfolding ruled_of
  removal_ruled B f r = removal_fits f ∙ ap removed_as (one_answer (rule_says B f.formed) r)

  pub done_fits : removal_of b labels v l standing ≡ Ok tt → Fits b labels standing
  done_fits e =
      opening_stages b labels standing (λ a o. absurd (opening_refuses b labels standing o (sym (removal_refused o) ∙ e))) (λ f. f)

-- THE STANDING BYTES after the call
pub when_refused : (a : Result Unit Refusal) → a ≢ (Ok tt) → (cleared kept : List ℕ) → when_done a cleared kept ≡ kept
when_refused (Ok _) n cleared kept = absurd (n refl)
when_refused (Err p) n cleared kept = refl

module _ (b labels : List ℕ) (v l : ℕ) where
  -- transition i leaves v with the label l
  abbrev entry_test : ℕ → Bool
  entry_test i = eqb (from_of b i) v && eqb (get_or labels i 0) l

  cleared_length : (i : ℕ) (ss : List ℕ) → length (cleared_from b labels v l i ss) ≡ length ss
  unfolding cleared_from
  cleared_length i [] = refl
  cleared_length i (s ∷ ss) = ap suc (cleared_length (suc i) ss)

  cleared_at : (i : ℕ) (ss : List ℕ) (k : ℕ) → k < length ss
      → get_or (cleared_from b labels v l i ss) k 0 ≡ cond (entry_test (i + k)) 0 (get_or ss k 0)
  unfolding cleared_from
  cleared_at i [] k h = absurd (omega arith)
  cleared_at i (s ∷ ss) zero h = ap (λ (j : ℕ). cond (entry_test j) 0 s) (omega arith)
  cleared_at i (s ∷ ss) (suc k) h = cleared_at (suc i) ss k (omega arith) ∙ ap (λ (j : ℕ). cond (entry_test j) 0 (get_or ss k 0)) (omega arith)

  pub cleared_taken : (standing : List ℕ) → length standing ≡ count_of b
      → TakenOut b labels v l standing (cleared_from b labels v l 0 standing)
  cleared_taken standing long = record {
    long = cleared_length 0 standing;
    gone = λ i h e. at i h ∙ ap (λ (x : Bool). cond x 0 (get_or standing i 0)) ((decides_entry i).1 e);
    kept = λ i h d. at i h ∙ ap (λ (x : Bool). cond x 0 (get_or standing i 0)) (is_false (decides_entry i) d);
  }
    where
      at : (i : ℕ) → i < count_of b → get_or (cleared_from b labels v l 0 standing) i 0 ≡ cond (entry_test i) 0 (get_or standing i 0)
      at i h = cleared_at 0 standing i (omega (arith, long)) ∙ ap (λ (j : ℕ). cond (entry_test j) 0 (get_or standing i 0)) (omega arith)

      decides_entry : (i : ℕ) → Decides (entry_test i) ((from_of b i ≡ v) × (get_or labels i 0 ≡ l))
      decides_entry i = decides_and (decides_eqb (from_of b i) v) (decides_eqb (get_or labels i 0) l)

  pub left_done : (standing : List ℕ) → removal_of b labels v l standing ≡ Ok tt
      → left_of b labels v l standing ≡ cleared_from b labels v l 0 standing
  unfolding left_of
  left_done standing e = rw e

  pub left_kept : (standing : List ℕ) → removal_of b labels v l standing ≢ (Ok tt) → left_of b labels v l standing ≡ standing
  unfolding left_of
  left_kept standing h = when_refused (removal_of b labels v l standing) h _ standing

  -- done: exactly the entries of the loop are gone
  pub done_leaves : (standing : List ℕ) → removal_of b labels v l standing ≡ Ok tt
      → TakenOut b labels v l standing (left_of b labels v l standing)
  done_leaves standing e = rw (left_done standing e) (cleared_taken standing (done_fits b labels v l standing e).marked.long)

-- THE ANSWER AND THE BYTES exactly where document 01 says so
module _ (b labels : List ℕ) (v l : ℕ) (standing : List ℕ) (B : Bytes labels) where
  abbrev Gives : Result Unit Refusal → List ℕ → Type 0
  Gives x after = (removal_of b labels v l standing ≡ x) × (left_of b labels v l standing ≡ after)

  refusing : {x : Result Unit Refusal} → removal_of b labels v l standing ≡ x → x ≢ (Ok tt) → Gives x standing
  refusing e n = (e, left_kept b labels v l standing (λ z. n (sym e ∙ z)))

  answer_gives : {x : Result Unit Refusal} {after : List ℕ} → RemovalAnswer b labels v l standing x after → Gives x after
  answer_gives (opening o) = refusing (removal_refused b labels v l standing o) (opening_refuses b labels standing o)
  answer_gives (refused f x) =
      let (a, r, e) = refused_rule x in refusing (removal_ruled b labels v l standing B f r ∙ e) (loop_refuses x)
  answer_gives (taken f c t) =
      let e = removal_ruled b labels v l standing B f (chart_goes c) in
      (e, one_taken (only? v l) f.marked.long (done_leaves b labels v l standing e) t)

  -- some answer is meant
  abbrev Answered : Type 0
  Answered = RemovalAnswer b labels v l standing (removal_of b labels v l standing) (left_of b labels v l standing)

  given : {x : Result Unit Refusal} {after : List ℕ} → RemovalAnswer b labels v l standing x after → Answered
  given h = let (e, f) = answer_gives h in rw (e, f) h

  removal_answer : Answered
  removal_answer =
      opening_stages b labels standing (λ a o. given (opening o))
      (λ f. ⊎_elim (λ c. given (taken f c (cleared_taken b labels v l standing f.marked.long))) (λ x. given (refused f x))
      (rule_or (rule_says b labels v l standing B f.formed)))

  pub removal_says : (x : Result Unit Refusal) (after : List ℕ)
      → ((removal_of b labels v l standing ≡ x) × (left_of b labels v l standing ≡ after))
      ↔ RemovalAnswer b labels v l standing x after
  removal_says x after = ((λ (e, f). rw (e, f) at removal_answer), answer_gives)
