-- An expression for a chart (document 02, C-14), by the numbers, proved.
use mathlib.Core.Path.{◌≡◌, refl, sym, ap, ◌∙◌, subst}
use mathlib.Core.List.{List, ◌++◌}
use mathlib.Core.Option.{some}
use Prim.Native.Nat.{ℕ, zero, suc, ◌+◌, ◌*◌, ◌<◌, ◌≤◌}
use native.Mathlib.Omega.{arith}
use lib.ListN.{length, take, length-append}
use lib.Seq.{take-append_seam}
use Rattle.theory.specs.Expressions.{Expr, act, star}
use Rattle.theory.specs.PostOrders.{size, numbered_from}
use Rattle.theory.specs.TextTests as tests-of
use Rattle.theory.specs.Tests as tests
use Rattle.theory.specs.Reachability.{values, rounds, reaches}
use Rattle.theory.specs.LabellingTests.{any_test, loop_test, loop_list, body_test, unreached_test, cycle_test, not_lower_test}
use Rattle.theory.specs.LabellingTests.{loop_outcome, failing_test, loops_outcome, outcome}
use Rattle.theory.proofs.PostOrders.{post_size}
use Rattle.theory.proofs.TextTests.{one_text, fitting_iff}
use Rattle.report.specs.declared.Numbers.{Numbers}
use Rattle.std.specs.Prelude.{Result, Ok, Err}
use Rattle.report.specs.declared.Refusal.{Refusal}
use Rattle.report.specs.declared.Refusal.TheVariants.{TooManyNodes}
use Rattle.report.specs.Numbers.{accepted_with}
use Rattle.report.specs.Numbers.{four, length_numbers}
use Rattle.report.proofs.NumberLaws.{one_length}
use Rattle.bits.specs.Bits.{Bytes, bytes_with}
use Rattle.chart.specs.Bodies.{vertices_of, count_of}
use Rattle.chart.specs.Checks as chart
use Rattle.chart.specs.Systems.{drawn_of}
use Rattle.chart.proofs.Checks.{well_formed, passes}
use Rattle.expression.specs.Table as nodes
use Rattle.expression.specs.Body.{body_of}
use Rattle.expression.specs.NodeBytes.{node_bytes_from, table_of}
use Rattle.expression.proofs.Chart.{body_vertices}
use Rattle.bisimulation.specs.Relations.{relation_of}
use Rattle.bisimulation.proofs.Relations.{relation_iff_bisimulation}
use Rattle.witness.specs.Labellings as labelling
use Rattle.witness.proofs.Labellings.{labelled_iff_witness, labelled_loops}
use Rattle.verdict.specs.Files.{file_of, record_of}
use Rattle.verdict.specs.Verdicts.{verdict_of}
use Rattle.verdict.proofs.Files.{records_iff}
use Rattle.verdict.proofs.Layouts.{layout_whole}
use Rattle.verdict.proofs.Verdicts.{accepted_iff}
use Rattle.extraction.specs.ExtractionAnswers.{DrawnPasses, StartText, IsTable, ExtractionAnswer, other_chart, other_labels, too_many, written}
use Rattle.extraction.proofs.StartTexts as texts
use Rattle.extraction.proofs.ExtractionCalls.{extraction_says}
use Rattle.promises.specs.Extraction.{ExtractionGives, ExtractionByNumbers, OfStartTexts, OfWritten, chart_g, labels_g, nodes_g, GivesG}
use Rattle.promises.proofs.Numbered.{by_numbers}
use Rattle.promises.proofs.TextRelations.{some_relation}

pub extraction_numbers : (b labels out : List ℕ) → Bytes labels → ExtractionByNumbers b labels out
extraction_numbers b labels out B = by_numbers length_numbers (extraction_says b labels out B)

-- an answer that is meant has its numbers
given : {b labels out t : List ℕ} {x : Result ℕ Refusal} {k : Numbers} → Bytes labels → ExtractionAnswer b labels out x t → length_numbers x ≡ k
    → ExtractionGives b labels out k t
given {b} {labels} {out} {t} {x} {k} B A e = (extraction_numbers b labels out B k t).1 (record { answer = x; meant = A; numbered = e })

-- and the numbers tell the answer
meant : {b labels out t : List ℕ} (x : Result ℕ Refusal) → Bytes labels → ExtractionGives b labels out (length_numbers x) t
    → ExtractionAnswer b labels out x t
meant {b} {labels} {out} {t} x B (p, q) = (extraction_says b labels out B x t).0 (one_length _ _ p, q)

-- OF EVERY CHART AND LABELLING THAT PASS
many_nodes : {b labels out u : List ℕ} {e : Expr} → StartText b labels e → ExtractionAnswer b labels out (Err TooManyNodes) u → 127 < size e
many_nodes t (other_chart c) = elim c [ ]
many_nodes t (other_labels P c) = elim c [ ]
many_nodes t (too_many P s h) = subst (λ (f : Expr). 127 < size f) (one_text s t) h

pub of_start_texts : (b labels : List ℕ) → Bytes labels → DrawnPasses b labels → OfStartTexts b labels
of_start_texts b labels B P = record {
  found = texts.start_text_lem b labels P;
  only = one_text;
  table = λ t. (table_of _, texts.text_table b labels P.chart _ t);
  one_table = λ S T. texts.one_table S ∙ sym (texts.one_table T);
  few = λ t T h out l. given B (written P t h l T) refl;
  more = λ t out. ((λ h. given B (too_many P t h) refl), (λ g. many_nodes t (meant (Err TooManyNodes) B g)));
}

-- OF EVERY TABLE THAT IS WRITTEN
record WrittenTable (b labels out : List ℕ) (n : ℕ) (t : List ℕ) : Type 0 where
  passed : DrawnPasses b labels
  text : Expr
  is_text : StartText b labels text
  few : size text ≤ 127
  table : List ℕ
  is_table : IsTable text table
  begins : take n t ≡ table

wrote : {b labels out t : List ℕ} {n : ℕ} → ExtractionAnswer b labels out (Ok n) t → WrittenTable b labels out n t
wrote {out = out} (written {e = e} {s = s} P t h l T) = record {
  passed = P;
  text = e;
  is_text = t;
  few = h;
  table = s;
  is_table = T;
  begins = ap (λ (k : ℕ). take k (bytes_with s out)) (sym T.long) ∙ take-append_seam s _;
}

node_count_lem : {n : ℕ} (s : List ℕ) → length s ≡ 4 * n → nodes.count s ≡ n
unfolding nodes.count
node_count_lem s l = omega arith

record_long : (k : ℕ) (body : List ℕ) → length (record_of k body) ≡ 4 + length body
record_long k body = omega arith

-- four bodies that pass are a file that is accepted
module _ (s b labels relation : List ℕ) where
  file_long : length (file_of s b labels relation) ≡ 16 + (length s + length b + length labels + length relation)
  file_long =
      let x = record_long 1 s in let y = record_long 2 b in let z = record_long 3 labels in let w = record_long 4 relation in
      let p = length-append (record_of 3 labels) (record_of 4 relation) in
      let q = length-append (record_of 2 b) (record_of 3 labels ++ record_of 4 relation) in
      length-append (record_of 1 s) (record_of 2 b ++ (record_of 3 labels ++ record_of 4 relation)) ∙ omega arith

  file_accepted : {l : ℕ} → nodes.check_of s ≡ Ok tt → chart.check_of b ≡ Ok tt
      → labelling.labelled_of b labels ≡ Ok l
      → relation_of (body_of s) b relation ≡ Ok tt → length (file_of s b labels relation) ≤ 43536
      → verdict_of (file_of s b labels relation) ≡ Ok (accepted_with (vertices_of b) (count_of b) l)
  file_accepted {l} n c p r short =
      let (w, i, j, k, m) = layout_whole s b labels relation short in
      (accepted_iff (file_of s b labels relation) (vertices_of b) (count_of b) l).1 (
        (records_iff (file_of s b labels relation)).1 w,
        rw i n,
        rw j c,
        rw (j, k) p,
        rw (i, j, m) r,
        ap vertices_of (sym j),
        ap count_of (sym j),
      )

pub of_written : (b labels out : List ℕ) → Bytes labels → (n : ℕ) (t : List ℕ) → ExtractionGives b labels out (four 0 n 0 0) t
    → OfWritten b labels (take n t)
of_written b labels out B n t g = go (wrote (meant (Ok n) B g))
  where
    go : WrittenTable b labels out n t → OfWritten b labels (take n t)
    go w =
        let P = w.passed in
        let e = w.text in
        let s = w.table in
        let T = w.is_table in
        let W = P.chart in
        let c = passes b W in
        let q = texts.one_table T in
        let counts : nodes.count s ≡ suc T.root = omega (arith, post_size T.ordered, node_count_lem s T.long) in
        let (r, R, x) = some_relation b labels W s e T.root counts T.ordered w.is_text in
        let (l, y) = (labelled_iff_witness b labels c B).1 (P.long, P.reaches, P.witness) in
        let k : nodes.check_of s ≡ (Ok tt) = rw q (texts.text_passes b labels W e w.is_text w.few) in
        let rows = ((relation_iff_bisimulation (body_of s) b r).0 x).0 in
        let short : length (file_of s b labels r) ≤ 43536 =
        omega (
          arith,
          file_long s b labels r,
          T.long,
          w.few,
          W.header.whole,
          W.header.count_high,
          P.long,
          body_vertices s,
          node_count_lem s T.long,
        ) in
        rw w.begins (record {
          text = e;
          is_text = w.is_text;
          is_table = T;
          passes = k;
          relation = r;
          relation_bytes = R;
          related = x;
          loops = l;
          number_of_loops = labelled_loops b labels c B l y;
          accepted = file_accepted s b labels r k c y x short;
        })

-- DOCUMENT 01'S G
G_labelled : labelling.labelled_of chart_g labels_g ≡ Ok 1
unfolding labelling.labelled_of labelling.labelling_outcome labelling.loops_of labelling.step_test outcome loops_outcome
    failing_test loop_outcome not_lower_test cycle_test unreached_test body_test loop_list loop_test any_test reaches rounds
    values tests.some_below tests.lowest tests.first_row tests.row_pairs tests.pairs_from tests.pairs
G_labelled = refl

G_chart : chart.check_of chart_g ≡ Ok tt
unfolding chart.check_of chart.header_ok chart.fits_at chart.above_at chart.ok_at chart.first_bad chart.◌and◌
G_chart = refl

G_text : tests-of.fitting (drawn_of chart_g labels_g) 127 1 0 ≡ some (star (act 1) (act 2))
unfolding tests-of.fitting tests-of.written tests-of.star_of tests-of.sum_of tests-of.item
G_text = refl

G_nodes : table_of (star (act 1) (act 2)) ≡ nodes_g
unfolding node_bytes_from numbered_from
G_nodes = refl

G_bytes : Bytes labels_g
G_bytes zero = omega arith
G_bytes (suc zero) = omega arith
G_bytes (suc (suc k)) = omega arith

pub gives_G : GivesG
gives_G out h =
    let (l, r, w) = (labelled_iff_witness chart_g labels_g G_chart G_bytes).0 (1, G_labelled) in
    let P : DrawnPasses chart_g labels_g = record { chart = well_formed chart_g G_chart; long = l; reaches = r; witness = w } in
    let t = ((fitting_iff (drawn_of chart_g labels_g) 127 1 0 (star (act 1) (act 2))).0 G_text).0 in
    let T = texts.text_table chart_g labels_g P.chart (star (act 1) (act 2)) t in
    given G_bytes (written {s = nodes_g} P t (omega arith) h (subst (IsTable (star (act 1) (act 2))) G_nodes T)) refl
