-- An accepted file is exactly one that holds a yard, with the counts of its verdict.
use mathlib.Core.Path.{◌≡◌, sym, ◌∙◌, ap}
use mathlib.Core.Logic.{◌↔◌}
use mathlib.Core.List.{List}
use Prim.Native.Nat.{ℕ, ◌+◌, ◌*◌}
use lib.ListN.{length, drop}
use lib.Seq.{get_or-drop}
use Rattle.theory.specs.Systems.{Bisimulation}
use Rattle.std.specs.Prelude.{Ok}
use Rattle.report.specs.Numbers.{accepted_with}
use Rattle.bits.specs.Bits.{Bytes}
use Rattle.bits.proofs.SetBytes.{taken_bytes}
use Rattle.chart.specs.Bodies as chart
use Rattle.chart.specs.Checks as checks
use Rattle.chart.proofs.Checks as checks'
use Rattle.expression.specs.Body.{body_of}
use Rattle.expression.proofs.Table as nodes'
use Rattle.expression.proofs.Chart.{body_vertices, body_start, body_transitions}
use Rattle.witness.specs.Labellings.{labelled_of, loops_of}
use Rattle.witness.proofs.Labellings.{labelled_iff_witness, labelled_number, labelled_loops, loops_number}
use Rattle.bisimulation.specs.Relations.{relation_of}
use Rattle.bisimulation.specs.Answers.{Related}
use Rattle.bisimulation.proofs.Relations.{relation_iff_bisimulation}
use Rattle.bits.specs.Packed.{two_at}
use Rattle.verdict.specs.Files.{file_of, offset_of, body_at, Whole}
use Rattle.verdict.specs.Verdicts.{nodes_in, chart_in, labels_in, relation_in, verdict_of}
use Rattle.verdict.proofs.Files.{records_iff, records_whole}
use Rattle.verdict.proofs.Layouts.{whole_layout, layout_whole}
use Rattle.verdict.proofs.Verdicts.{accepted_iff}
use Rattle.chart.specs.Systems.{system_of}
use Rattle.promises.specs.Accepted.{expression_system, Holds}

-- the written body's chart is the expression's
same_chart : (s b relation : List ℕ)
    → Bisimulation (system_of (body_of s)) (system_of b) (Related relation)
    ↔ Bisimulation (expression_system s) (system_of b) (Related relation)
same_chart s b relation = ((λ h. rw (body_start s, body_transitions s) at h), (λ h. rw (body_start s, body_transitions s) h))

-- a part of a list of bytes is one
pub part_bytes : (f : List ℕ) (k : ℕ) → Bytes f → Bytes (body_at f k)
unfolding body_at
part_bytes f k bytes = taken_bytes (two_at f (offset_of f k)) (drop (offset_of f k + 4) f) (λ i. rw get_or-drop (bytes (offset_of f k + 4 + i)))

module _ (f : List ℕ) (bytes : Bytes f) where
  pub accepted_holds : (v t l : ℕ) → verdict_of f ≡ Ok (accepted_with v t l) → Holds f v t l
  accepted_holds v t l e =
      let (r, n, c, p, q, v', t') = (accepted_iff f v t l).0 e in
      let w : Whole f = records_whole f r in
      let (long, conn, wit) = (labelled_iff_witness (chart_in f) (labels_in f) c (part_bytes f 2 bytes)).0 (l, p) in
      let (rows, range, bis) = (relation_iff_bisimulation (body_of (nodes_in f)) (chart_in f) (relation_in f)).0 q in
      record {
        s = nodes_in f;
        b = chart_in f;
        labels = labels_in f;
        relation = relation_in f;
        short = w.short;
        records = whole_layout f bytes w;
        yard = record {
          expression = nodes'.passed→well_formed (nodes_in f) n;
          chart_body = checks'.well_formed (chart_in f) c;
          labelled = long;
          connected = conn;
          witness = wit;
          rows = rows ∙ ap (λ (x : ℕ). 16 * x) (body_vertices (nodes_in f));
          in_range = λ u x h. (rw (body_vertices (nodes_in f)) at (range u x h).0, (range u x h).1);
          bisimulation = (same_chart (nodes_in f) (chart_in f) (relation_in f)).0 bis;
        };
        vertices = v';
        transitions = t';
        loops = labelled_loops (chart_in f) (labels_in f) c (part_bytes f 2 bytes) l p;
      }

  pub holds_accepted : (v t l : ℕ) → Holds f v t l → verdict_of f ≡ Ok (accepted_with v t l)
  holds_accepted v t l h = (accepted_iff f v t l).1 (
    (records_iff f).1 whole,
    rw is_s (nodes'.well_formed→passed h.s h.yard.expression),
    chart_passes,
    labels_pass,
    relation_passes,
    h.vertices ∙ ap chart.vertices_of (sym is_b),
    h.transitions ∙ ap chart.count_of (sym is_b),
  )
    where
      e : f ≡ file_of h.s h.b h.labels h.relation
      e = h.records

      laid : Whole f × (nodes_in f ≡ h.s) × (chart_in f ≡ h.b) × (labels_in f ≡ h.labels) × (relation_in f ≡ h.relation)
      laid = rw e (layout_whole h.s h.b h.labels h.relation (rw e at h.short))

      whole : Whole f
      whole = laid.0

      is_s : nodes_in f ≡ h.s
      is_s = laid.1

      is_b : chart_in f ≡ h.b
      is_b = laid.2

      chart_passes : checks.check_of (chart_in f) ≡ Ok tt
      chart_passes = rw is_b (checks'.passes h.b h.yard.chart_body)

      labels_pass : labelled_of (chart_in f) (labels_in f) ≡ Ok l
      labels_pass =
          let long = ap length laid.3 ∙ h.yard.labelled ∙ ap chart.count_of (sym is_b) in
          let (n, p) = (labelled_iff_witness (chart_in f) (labels_in f) chart_passes (part_bytes f 2 bytes)).1 (long, rw (is_b, laid.3) h.yard.connected, rw (is_b, laid.3) h.yard.witness) in
          let (xs, all, len) = h.loops in
          let m : length xs ≡ loops_of (chart_in f) (labels_in f) = loops_number (chart_in f) (labels_in f) chart_passes (part_bytes f 2 bytes) xs (rw (is_b, laid.3) all) in
          p ∙ ap Ok (labelled_number (chart_in f) (labels_in f) chart_passes (part_bytes f 2 bytes) n p ∙ sym m ∙ len)

      relation_passes : relation_of (body_of (nodes_in f)) (chart_in f) (relation_in f) ≡ Ok tt
      relation_passes = rw (is_s, is_b, laid.4)
          ((relation_iff_bisimulation (body_of h.s) h.b h.relation).1 (
            h.yard.rows ∙ ap (λ (x : ℕ). 16 * x) (sym (body_vertices h.s)),
            (λ u x q. (rw (body_vertices h.s) (h.yard.in_range u x q).0, (h.yard.in_range u x q).1)),
            (same_chart h.s h.b h.relation).1 h.yard.bisimulation,
          ))

  -- ACCEPTED exactly when the file holds a yard with these counts
  pub accepted_iff_holds : (v t l : ℕ) → (verdict_of f ≡ Ok (accepted_with v t l)) ↔ Holds f v t l
  accepted_iff_holds v t l = (accepted_holds v t l, holds_accepted v t l)
