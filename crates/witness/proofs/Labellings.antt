-- What 30 to 35 say, over bytes: a labelling passes exactly when it is a layered loop witness of a connected chart, each refusal
-- says what document 01 says of it, and the number is that of the loops.
use mathlib.Core.Path.{◌≡◌, refl, sym, ◌∙◌, ap, subst}
use mathlib.Core.Logic.{◌≢◌, by_cases, ◌↔◌}
use mathlib.Core.List.{List}
use Prim.Native.Nat.{ℕ, ◌<◌}
use native.Mathlib.Decide.{ℕ_discrete}
use lib.ListN.{length, get_or}
use borrow.Author.Tests.{eq-eqb, ne_eqb}
use Rattle.theory.specs.Charts.{Loop}
use Rattle.theory.specs.Witnesses.{Witness, Connected}
use Rattle.theory.specs.Checks.{Outcome, Unreached, OnBranchCycle, EarlierPass, LoopFails, fails_33, fails_34, fails_35, Checked, all_pass, fails_31, fails_32, fails_loop}
use Rattle.theory.specs.Orders.{AllLoops}
use Rattle.theory.specs.Tests.{Decides}
use Rattle.theory.specs.LabellingTests.{loop_list}
use Rattle.theory.proofs.Tests.{decided, decides_same, decides_and, decides_eqb, decides_below}
use Rattle.theory.proofs.Reachability.{decides_star}
use Rattle.theory.proofs.LabellingTests.{decides_any, loops_listed, outcome_checked}
use Rattle.theory.proofs.Outcomes.{one_outcome, passes_iff_witness}
use Rattle.std.specs.Prelude.{Result, Ok, Err}
use Rattle.report.specs.declared.Refusal.{Refusal}
use Rattle.report.specs.declared.Refusal.TheVariants as refusal
use Rattle.bits.specs.Bits.{Bytes}
use Rattle.chart.specs.Bodies.{vertices_of, start_of, count_of, from_of, to_of, WellFormed}
use Rattle.chart.specs.Checks.{check_of}
use Rattle.chart.specs.Steps.{StepsOf}
use Rattle.chart.proofs.Checks.{well_formed}
use Rattle.chart.proofs.Relations.{steps_formed, steps_listed}
use Rattle.witness.specs.LabellingAnswers.{Long, Reaches, FirstLoop, LabellingAnswer, passed, other_length, unreached_at, cycle_at, no_way_back, end_in_body, not_lower_at}
use Rattle.witness.proofs.Counting.{loops_length}
use Rattle.witness.specs.Labellings.{step_test, loops_of, labelling_outcome, labelled_as, labelled_of}

-- the test of a transition decides which there are
pub tests_step : (b labels : List ℕ) (u l w : ℕ) → Decides (step_test b labels u l w) (StepsOf b labels u l w)
unfolding step_test
tests_step b labels u l w =
    decides_same
    ((λ (i, h, (p, (q, r))). record { at = i; within = h; leaves = p; enters = r; holds = record { is = q } }), (λ s. (s.at, s.within, (s.leaves, (s.holds.is, s.enters)))))
    (decides_below (λ i. decides_and (decides_eqb (from_of b i) u) (decides_and (decides_eqb (get_or labels i 0) l) (decides_eqb (to_of b i) w))) (count_of b))

module _ (b labels : List ℕ) (W : WellFormed b) (B : Bytes labels) where
  labels_below : (u l w : ℕ) → StepsOf b labels u l w → l < 256
  labels_below = (steps_listed b labels B).label_below

  pub loop_below : {v l : ℕ} → Loop (StepsOf b labels) v l → (v < vertices_of b) × (l < 256)
  loop_below (h, w, s) = (((steps_formed b labels W).from_vertex _ _ _ s).1, labels_below _ _ _ s)

  -- no vertex is unreached: all are reached
  pub all_reached : ((w : ℕ) → w < vertices_of b → ¬ Unreached (vertices_of b) (StepsOf b labels) (start_of b) w) → Connected (vertices_of b) (StepsOf b labels) (start_of b)
  all_reached none w h g =
      by_cases
      (decided (decides_star (decides_any (tests_step b labels) (steps_formed b labels W) labels_below) (vertices_of b) (λ u x (l, s). (steps_formed b labels W).to_vertex u l x s) (start_of b) w W.header.start_high (λ u. decides_eqb u (start_of b))))
      (λ p. p)
      (λ p. absurd (none w g (h, g, p)))

  pub outcome_of : Checked (vertices_of b) (StepsOf b labels) (start_of b) (labelling_outcome b labels)
  unfolding labelling_outcome
  outcome_of = outcome_checked (tests_step b labels) (steps_formed b labels W) labels_below (start_of b) W.header.start_high

  -- where 30 passes, the answer is that of the checks 31 to 35
  pub labelled_checked : length labels ≡ count_of b → {o : Outcome} → Checked (vertices_of b) (StepsOf b labels) (start_of b) o → labelled_of b labels ≡ labelled_as (loops_of b labels) o
  unfolding labelled_of
  labelled_checked e c = rw (eq-eqb (length labels) (count_of b) e) (ap (labelled_as (loops_of b labels)) (one_outcome outcome_of c))

  pub labelled_outcome : length labels ≡ count_of b → labelled_of b labels ≡ labelled_as (loops_of b labels) (labelling_outcome b labels)
  labelled_outcome e = labelled_checked e outcome_of

-- 30: the labelling has another length
pub labelled_long : (b labels : List ℕ) → length labels ≢ count_of b → labelled_of b labels ≡ Err (refusal.LabelsLength (length labels))
unfolding labelled_of
labelled_long b labels h = rw (ne_eqb (length labels) (count_of b) h)

-- THE THEOREMS, for a chart body that 20 and 21 let pass
module _ (b labels : List ℕ) (checked : check_of b ≡ Ok tt) (B : Bytes labels) where
  well : WellFormed b
  well = well_formed b checked

  -- the number of loops is the length of each list with every loop once, and there is one
  pub loops_all : AllLoops (StepsOf b labels) (loop_list (step_test b labels) (vertices_of b) 256)
  loops_all = loops_listed (tests_step b labels) (steps_formed b labels well) (labels_below b labels well B)

  pub loops_number : (xs : List (ℕ × ℕ)) → AllLoops (StepsOf b labels) xs → length xs ≡ loops_of b labels
  unfolding loops_of
  loops_number xs a = loops_length a loops_all

  first_loop : {v l : ℕ} → Long b labels → Reaches b labels → ((w : ℕ) → ¬ OnBranchCycle (StepsOf b labels) w)
      → Loop (StepsOf b labels) v l → EarlierPass (StepsOf b labels) v l → FirstLoop b labels v l
  first_loop h c n i e = record { long = h; reaches = c; acyclic = n; is_loop = i; earlier = e }

  -- the outcome of 31 to 35, as an answer
  outcome_answer : length labels ≡ count_of b → {o : Outcome} → Checked (vertices_of b) (StepsOf b labels) (start_of b) o
      → LabellingAnswer b labels (labelled_as (loops_of b labels) o)
  unfolding loops_of
  outcome_answer h (all_pass c p) =
      let (k, w) = (passes_iff_witness (steps_formed b labels well) (start_of b)).0 (all_pass c p) in
      passed (loop_list (step_test b labels) (vertices_of b) 256) h k w loops_all
  outcome_answer h (fails_31 p) = unreached_at h p
  outcome_answer h (fails_32 c p) = cycle_at h c p
  outcome_answer h (fails_loop c n i e (fails_33 x)) = no_way_back (first_loop h c n i e) x
  outcome_answer h (fails_loop c n i e (fails_34 x y)) = end_in_body (first_loop h c n i e) x y
  outcome_answer h (fails_loop c n i e (fails_35 x y r)) = not_lower_at (first_loop h c n i e) x y r

  labelled_answer : LabellingAnswer b labels (labelled_of b labels)
  labelled_answer = by_cases (ℕ_discrete (length labels) (count_of b))
      (λ h. rw (labelled_outcome b labels well B h) (outcome_answer h (outcome_of b labels well B)))
      (λ h. rw (labelled_long b labels h) (other_length h))

  loop_answer : {v l : ℕ} {o : Outcome} → FirstLoop b labels v l → LoopFails (StepsOf b labels) v l o
      → labelled_of b labels ≡ labelled_as (loops_of b labels) o
  loop_answer f x =
      labelled_checked b labels well B f.long (fails_loop f.reaches f.acyclic f.is_loop f.earlier x)

  answer_labelled : {a : Result ℕ Refusal} → LabellingAnswer b labels a → labelled_of b labels ≡ a
  answer_labelled (passed xs h c w all) =
      labelled_checked b labels well B h ((passes_iff_witness (steps_formed b labels well) (start_of b)).1 (c, w))
      ∙ ap Ok (sym (loops_number xs all))
  answer_labelled (other_length h) = labelled_long b labels h
  answer_labelled (unreached_at h p) = labelled_checked b labels well B h (fails_31 p)
  answer_labelled (cycle_at h c p) = labelled_checked b labels well B h (fails_32 c p)
  answer_labelled (no_way_back f x) = loop_answer f (fails_33 x)
  answer_labelled (end_in_body f x y) = loop_answer f (fails_34 x y)
  answer_labelled (not_lower_at f x y r) = loop_answer f (fails_35 x y r)

  -- EACH ANSWER, with its place, stands exactly where what it says holds
  pub labelled_says : (a : Result ℕ Refusal) → (labelled_of b labels ≡ a) ↔ LabellingAnswer b labels a
  labelled_says a = ((λ e. subst (LabellingAnswer b labels) e labelled_answer), answer_labelled)

  pub labelled_loops : (n : ℕ) → labelled_of b labels ≡ Ok n
      → (xs : List (ℕ × ℕ)) × AllLoops (StepsOf b labels) xs × (length xs ≡ n)
  labelled_loops n e = loops ((labelled_says (Ok n)).0 e)
    where
      loops : {m : ℕ} → LabellingAnswer b labels (Ok m)
          → (xs : List (ℕ × ℕ)) × AllLoops (StepsOf b labels) xs × (length xs ≡ m)
      loops (passed xs h c w all) = (xs, all, refl)

  -- a labelling that passes answers that number
  pub labelled_number : (n : ℕ) → labelled_of b labels ≡ Ok n → n ≡ loops_of b labels
  labelled_number n e = let (xs, all, h) = labelled_loops n e in sym h ∙ loops_number xs all

  -- A LABELLING PASSES EXACTLY WHEN it has a byte a transition, the chart is connected and it is a layered loop witness
  pub labelled_iff_witness : ((n : ℕ) × (labelled_of b labels ≡ Ok n))
      ↔ ((length labels ≡ count_of b) × Connected (vertices_of b) (StepsOf b labels) (start_of b) × Witness (StepsOf b labels) (start_of b))
  labelled_iff_witness = (
    (λ (n, e). witness ((labelled_says (Ok n)).0 e)),
    (λ (h, c, w). (_, answer_labelled (passed _ h c w loops_all))),
  )
    where
      witness : {m : ℕ} → LabellingAnswer b labels (Ok m)
          → (length labels ≡ count_of b) × Connected (vertices_of b) (StepsOf b labels) (start_of b) × Witness (StepsOf b labels) (start_of b)
      witness (passed xs h c w all) = (h, c, w)
