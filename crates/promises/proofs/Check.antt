-- The check, by the numbers, proved: it answers n p q r exactly where document 01's sentence for n holds with these
-- places.
use mathlib.Core.Path.{◌≡◌, refl, sym, ◌∙◌, ap, subst}
use mathlib.Core.Logic.{◌≢◌, inl, inr, ◌↔◌, by_cases}
use mathlib.Core.Bool.{Bool, true, false, false≢true}
use mathlib.Core.List.{List}
use Prim.Native.Nat.{ℕ, suc, ◌<◌}
use native.Mathlib.Decide.{ℕ_discrete}
use native.Mathlib.Omega.{arith}
use lib.ListN.{length}
use Rattle.report.specs.Numbers.{four, refusal_numbers, verdict_numbers}
use Rattle.report.proofs.NumberLaws.{one_verdict}
use Rattle.std.specs.Prelude.{Result, Ok, Err}
use Rattle.report.specs.declared.Refusal.{Refusal}
use Rattle.report.specs.declared.Refusal.TheVariants as refusal
use Rattle.report.specs.declared.Accepted.{Accepted}
use Rattle.report.specs.Numbers.{accepted_with}
use Rattle.bits.specs.Bits.{Bytes}
use Rattle.chart.specs.Checks as chart
use Rattle.chart.proofs.Checks.{check_passed, check_20, check_21}
use Rattle.chart.proofs.Refusals.{refused_cases}
use Rattle.expression.specs.Table as nodes
use Rattle.expression.specs.Table.{NodesChecked, ill_sized, malformed_at, misused_at}
use Rattle.expression.proofs.Table.{checked, checked_is, passed→well_formed, well_formed→passed}
use Rattle.expression.proofs.Chart.{body_vertices, body_start}
use Rattle.witness.specs.Labellings.{labelled_of}
use Rattle.witness.specs.LabellingAnswers.{LabellingAnswer}
use Rattle.witness.specs.LabellingAnswers as labelling
use Rattle.witness.proofs.Labellings.{labelled_says, labelled_iff_witness}
use Rattle.bisimulation.specs.RelationAnswers.{RelationAnswer}
use Rattle.bisimulation.specs.RelationAnswers as relation
use Rattle.bisimulation.proofs.Relations.{relation_says}
use Rattle.verdict.specs.Files.{records_of, Whole, RecordsChecked, too_long, cut_header, other_kind, cut_body, bytes_after}
use Rattle.verdict.specs.Verdicts.{nodes_in, chart_in, labels_in, relation_in, verdict_of, Fails, records_fail, nodes_fail, chart_fails, labels_fail, relation_fails}
use Rattle.verdict.proofs.Files.{records_checked, checked_records, records_iff}
use Rattle.verdict.proofs.Verdicts.{refused_iff}
use Rattle.promises.specs.Accepted.{Holds}
use Rattle.promises.specs.Check.{FirstMalformed, FirstNotUsedOnce, NodesPass, ChartPasses, LabelsPass, expression_in, Sentence, SentenceFor, says_0, says_1, says_2, says_3, says_4, says_10, says_11, says_12, says_20, says_21, says_30, says_31, says_32, says_33, says_34, says_35, says_40, says_41, says_42, says_43, says_44, says_45}
use Rattle.promises.proofs.Accepted.{part_bytes, accepted_iff_holds}

-- THE NODES
good_or : (b : Bool) → ¬ (b ≡ false) → b ≡ true
good_or true h = refl
good_or false h = absurd (h refl)

module _ (s : List ℕ) where
  -- a sentence of 10, 11 or 12 is the answer of the nodes' checks
  pub check_10 : ¬ nodes.Sized s → nodes.check_of s ≡ Err (refusal.NodesLength (length s))
  check_10 h = sym (checked_is (ill_sized h))

  pub check_11 : {p : ℕ} → FirstMalformed s p → nodes.check_of s ≡ Err (refusal.Node p)
  check_11 {p} (z, l) = sym (checked_is (malformed_at p z l.holds.0 l.holds.1 good))
    where
      good : (k : ℕ) → k < p → nodes.is_good (nodes.node s k) ≡ true
      good k h = good_or _ (λ e. l.lowest k h (omega (arith, l.holds.0), e))

  pub check_12 : {p : ℕ} → FirstNotUsedOnce s p → nodes.check_of s ≡ Err (refusal.NodeUses p (nodes.uses_of s p))
  check_12 {p} (z, g, l) = sym (checked_is (misused_at p z (λ k h. good_or _ (λ e. g k (h, e))) l.holds.0 l.holds.1 once))
    where
      once : (j : ℕ) → j < p → nodes.uses_of s j ≡ 1
      once j h =
          by_cases (ℕ_discrete (nodes.uses_of s j) 1) (λ e. e) (λ e. absurd (l.lowest j h (omega (arith, l.holds.0), e)))

  -- and the other way: where it refuses, one of them holds
  pub first_malformed : {p : ℕ} → nodes.Sized s → p < nodes.count s → nodes.is_good (nodes.node s p) ≡ false
      → ((k : ℕ) → k < p → nodes.is_good (nodes.node s k) ≡ true) → FirstMalformed s p
  first_malformed z h e low = (z, record { holds = (h, e); lowest = λ k g q. false≢true (sym q.1 ∙ low k g) })

  pub first_misused : {p : ℕ} → nodes.Sized s → ((k : ℕ) → k < nodes.count s → nodes.is_good (nodes.node s k) ≡ true)
      → suc p < nodes.count s → nodes.uses_of s p ≢ 1 → ((j : ℕ) → j < p → nodes.uses_of s j ≡ 1) → FirstNotUsedOnce s p
  first_misused z g h e low = (
    z,
    (λ k q. false≢true (sym q.1 ∙ g k q.0)),
    record { holds = (h, e); lowest = λ j k q. q.1 (low j k) },
  )

-- what the stages of the check answer
abbrev Refuses : List ℕ → Refusal → Type 0
Refuses f p = verdict_numbers (verdict_of f) ≡ refusal_numbers p

abbrev labels_outcome : List ℕ → Result ℕ Refusal
labels_outcome f = labelled_of (chart_in f) (labels_in f)

-- THE CHECK
module _ (f : List ℕ) (bytes : Bytes f) where
  labels_bytes : Bytes (labels_in f)
  labels_bytes = part_bytes f 2 bytes

  -- the stages pass by their tests, and by what they mean
  records_test : Whole f → records_of f ≡ Ok tt
  records_test = (records_iff f).1

  nodes_test : NodesPass f → nodes.check_of (nodes_in f) ≡ Ok tt
  nodes_test h = well_formed→passed (nodes_in f) h.nodes

  nodes_pass : records_of f ≡ Ok tt → nodes.check_of (nodes_in f) ≡ Ok tt → NodesPass f
  nodes_pass a b = record { records = (records_iff f).0 a; nodes = passed→well_formed (nodes_in f) b }

  chart_test : ChartPasses f → chart.check_of (chart_in f) ≡ Ok tt
  chart_test h = (check_passed (chart_in f)).1 h.chart

  chart_passes : NodesPass f → chart.check_of (chart_in f) ≡ Ok tt → ChartPasses f
  chart_passes h c = record { before = h; chart = (check_passed (chart_in f)).0 c }

  labels_test : LabelsPass f → (l : ℕ) × (labels_outcome f ≡ Ok l)
  labels_test h =
      let c = chart_test h.before.before in
      (labelled_iff_witness (chart_in f) (labels_in f) c labels_bytes).1 (h.before.each, h.connected, h.witness)

  labels_pass : {l : ℕ} → ChartPasses f → labels_outcome f ≡ Ok l → LabelsPass f
  labels_pass {l} h e =
      let (a, c, w) = (labelled_iff_witness (chart_in f) (labels_in f) (chart_test h) labels_bytes).0 (l, e) in
      record { before = record { before = h; each = a }; connected = c; witness = w }

  -- FROM A SENTENCE TO THE ANSWER
  refused : {p : Refusal} → Fails f p → Refuses f p
  refused {p} h = ap verdict_numbers ((refused_iff f p).1 h)

  by_records : {p : Refusal} → RecordsChecked f (Err p) → Refuses f p
  by_records c = refused (records_fail (sym (checked_records f c)))

  by_nodes : {p : Refusal} → Whole f → nodes.check_of (nodes_in f) ≡ Err p → Refuses f p
  by_nodes w e = refused (nodes_fail (records_test w) e)

  by_chart : {p : Refusal} → NodesPass f → chart.check_of (chart_in f) ≡ Err p → Refuses f p
  by_chart h e = refused (chart_fails (records_test h.records) (nodes_test h) e)

  by_labels : {p : Refusal} → ChartPasses f → labels_outcome f ≡ Err p → Refuses f p
  by_labels h e = refused (labels_fail (records_test h.before.records) (nodes_test h.before) (chart_test h) e)

  by_labelling : {p : Refusal} → ChartPasses f → LabellingAnswer (chart_in f) (labels_in f) (Err p) → Refuses f p
  by_labelling h a = by_labels h ((labelled_says (chart_in f) (labels_in f) (chart_test h) labels_bytes _).1 a)

  by_relation : {p : Refusal} → LabelsPass f → RelationAnswer (expression_in f) (chart_in f) (relation_in f) (Err p) → Refuses f p
  by_relation h a =
      let c = h.before.before in
      let n = c.before in
      refused (relation_fails (records_test n.records) (nodes_test n) (chart_test c) (labels_test h).1 ((relation_says (expression_in f) (chart_in f) (relation_in f) _).1 a))

  sentence_answers : {n p q r : ℕ} → Sentence f n p q r → verdict_numbers (verdict_of f) ≡ four n p q r
  sentence_answers (says_0 h) = ap verdict_numbers ((accepted_iff_holds f bytes _ _ _).1 h)
  sentence_answers (says_1 h) = by_records (too_long h)
  sentence_answers (says_2 {k} h b (inl c)) = by_records (cut_header k h b c)
  sentence_answers (says_2 {k} h b (inr (c, d, g))) = by_records (cut_body k h b c d g)
  sentence_answers (says_3 {k} h b (c, d, g)) = rw (← d) (by_records (other_kind k h b c (rw (← d) at g)))
  sentence_answers (says_4 b h) = by_records (bytes_after b h)
  sentence_answers (says_10 w h) = by_nodes w (check_10 (nodes_in f) h)
  sentence_answers (says_11 w h) = by_nodes w (check_11 (nodes_in f) h)
  sentence_answers (says_12 w h) = by_nodes w (check_12 (nodes_in f) h)
  sentence_answers (says_20 h g) = by_chart h ((check_20 (chart_in f)).1 g)
  sentence_answers (says_21 {p} h g l) = by_chart h ((check_21 (chart_in f) p).1 (g, l))
  sentence_answers (says_30 h g) = by_labelling h (labelling.other_length g)
  sentence_answers (says_31 h l) = by_labelling h.before (labelling.unreached_at h.each l)
  sentence_answers (says_32 h c l) = by_labelling h.before (labelling.cycle_at h.each c l)
  sentence_answers (says_33 h g) = by_labelling h.0 (labelling.no_way_back h.1 g)
  sentence_answers (says_34 h g i) = by_labelling h.0 (labelling.end_in_body h.1 g i)
  sentence_answers (says_35 h g i l) = by_labelling h.0 (labelling.not_lower_at h.1 g i l)
  sentence_answers (says_40 h g) = by_relation h (relation.other_length (rw body_vertices g))
  sentence_answers (says_41 h w l) = by_relation h (relation.no_vertex (rw body_vertices w) l)
  sentence_answers (says_42 h g) = rw (← body_start (nodes_in f)) (by_relation h.0 (relation.starts_unrelated h.1 (rw body_start g)))
  sentence_answers (says_43 h g) = by_relation h.0 (relation.other_end h.1 g)
  sentence_answers (says_44 h g l) = by_relation h.0 (relation.expression_alone h.1 g l)
  sentence_answers (says_45 h g a l) = by_relation h.0 (relation.chart_alone h.1 g a l)

  -- FROM THE ANSWER TO ITS SENTENCE
  records_say : {p : Refusal} → RecordsChecked f (Err p) → SentenceFor f (refusal_numbers p)
  records_say (too_long h) = says_1 h
  records_say (cut_header k h b c) = says_2 h b (inl c)
  records_say (other_kind k h b c d) = says_3 h b (c, refl, d)
  records_say (cut_body k h b c d g) = says_2 h b (inr (c, d, g))
  records_say (bytes_after b h) = says_4 b h

  nodes_say : {p : Refusal} → Whole f → NodesChecked (nodes_in f) (Err p) → SentenceFor f (refusal_numbers p)
  nodes_say w (ill_sized h) = says_10 w h
  nodes_say w (malformed_at p z h e low) = says_11 w (first_malformed (nodes_in f) z h e low)
  nodes_say w (misused_at p z g h e low) = says_12 w (first_misused (nodes_in f) z g h e low)

  chart_say : {p : Refusal} → NodesPass f → chart.check_of (chart_in f) ≡ Err p → SentenceFor f (refusal_numbers p)
  chart_say {p} h = refused_cases (chart_in f) (λ x. SentenceFor f (refusal_numbers x)) (says_20 h) (λ i. says_21 h) p

  labels_say : {p : Refusal} → ChartPasses f → LabellingAnswer (chart_in f) (labels_in f) (Err p) → SentenceFor f (refusal_numbers p)
  labels_say h (labelling.other_length g) = says_30 h g
  labels_say h (labelling.unreached_at g l) = says_31 (record { before = h; each = g }) l
  labels_say h (labelling.cycle_at g c l) = says_32 (record { before = h; each = g }) c l
  labels_say h (labelling.no_way_back g i) = says_33 (h, g) i
  labels_say h (labelling.end_in_body g i e) = says_34 (h, g) i e
  labels_say h (labelling.not_lower_at g i e l) = says_35 (h, g) i e l

  relation_say : {p : Refusal} → LabelsPass f → RelationAnswer (expression_in f) (chart_in f) (relation_in f) (Err p) → SentenceFor f (refusal_numbers p)
  relation_say h (relation.other_length g) = says_40 h (rw body_vertices at g)
  relation_say h (relation.no_vertex w l) = says_41 h (rw body_vertices at w) l
  relation_say h (relation.starts_unrelated F g) = rw (body_start (nodes_in f)) (says_42 (h, F) (rw body_start at g))
  relation_say h (relation.other_end c g) = says_43 (h, c) g
  relation_say h (relation.expression_alone c g l) = says_44 (h, c) g l
  relation_say h (relation.chart_alone c g a l) = says_45 (h, c) g a l

  fails_say : {p : Refusal} → Fails f p → SentenceFor f (refusal_numbers p)
  fails_say (records_fail e) = records_say (subst (RecordsChecked f) e (records_checked f))
  fails_say (nodes_fail a e) = nodes_say ((records_iff f).0 a) (subst (NodesChecked (nodes_in f)) e (checked (nodes_in f)))
  fails_say (chart_fails a b e) = chart_say (nodes_pass a b) e
  fails_say (labels_fail a b c e) = labels_say (chart_passes (nodes_pass a b) c) ((labelled_says (chart_in f) (labels_in f) c labels_bytes _).0 e)
  fails_say (relation_fails a b c d e) =
      let h = labels_pass (chart_passes (nodes_pass a b) c) d in
      relation_say h ((relation_says (expression_in f) (chart_in f) (relation_in f) _).0 e)

  -- some sentence holds of every file, and just one
  pub answer_says : SentenceFor f (verdict_numbers (verdict_of f))
  answer_says = go (verdict_of f) refl
    where
      go : (x : Result Accepted Refusal) → verdict_of f ≡ x → SentenceFor f (verdict_numbers x)
      go (Ok a) e = says_0 ((accepted_iff_holds f bytes a.vertices a.transitions a.loops).0 e)
      go (Err p) e = fails_say ((refused_iff f p).0 e)

  -- THE CHECK ANSWERS n p q r exactly where the sentence for n holds with these places
  pub check_numbers : (n p q r : ℕ) → (verdict_numbers (verdict_of f) ≡ four n p q r) ↔ Sentence f n p q r
  check_numbers n p q r = ((λ e. subst (SentenceFor f) e answer_says), sentence_answers)

  pub one_sentence : {n p q r n' p' q' r' : ℕ} → Sentence f n p q r → Sentence f n' p' q' r'
      → four n p q r ≡ four n' p' q' r'
  one_sentence a b = sym (sentence_answers a) ∙ sentence_answers b

  -- n is 0 exactly for an accepted file
  pub check_zero : (v t l : ℕ) → (verdict_numbers (verdict_of f) ≡ four 0 v t l) ↔ Holds f v t l
  check_zero v t l = (
    (λ e. (accepted_iff_holds f bytes v t l).0 (one_verdict (verdict_of f) (Ok (accepted_with v t l)) e)),
    (λ h. sentence_answers (says_0 h)),
  )
