-- An expression for a chart: what the definitions answer and leave is what document 02 says, both ways; and so is what the code
-- finds.
use Prim.Native.Nat.{ℕ, ◌*◌, ◌≤◌, ◌<◌}
use mathlib.Core.Path.{◌≡◌, refl, sym, ap, ◌∙◌}
use mathlib.Core.Logic.{◌↔◌, by_cases}
use mathlib.Core.List.{List, ◌++◌}
use mathlib.Core.Option.{Option, some}
use native.Mathlib.Decide.{ℕ_discrete, dec_lt}
use native.Mathlib.Omega.{arith}
use lib.ListN.{length, take, drop}
use lib.Seq.{length-take-le}
use borrow.Author.Tests.{lt-ltb, le-ltb}
use Rattle.theory.specs.Expressions.{Expr}
use Rattle.theory.specs.Nodes.{Node}
use Rattle.theory.specs.PostOrders.{PostOrder, size}
use Rattle.theory.proofs.TextTests.{fitting_iff, fitting_none, fitting_not}
use Rattle.std.specs.Prelude.{Result, Ok, Err, Some, None}
use Rattle.report.specs.declared.Refusal.{Refusal}
use Rattle.report.specs.declared.Refusal.TheVariants as refusal
use Rattle.report.specs.declared.Refusal.TheVariants.{TooManyNodes}
use Rattle.bits.specs.Bits.{Bytes, bytes_with}
use Rattle.chart.specs.Bodies.{start_of, count_of}
use Rattle.chart.specs.Checks.{check_of}
use Rattle.chart.specs.Systems.{drawn_of}
use Rattle.chart.proofs.Checks.{well_formed, passes}
use Rattle.chart.proofs.Refusals.{chart_refused}
use Rattle.expression.specs.Table.{node}
use Rattle.expression.specs.NodeBytes.{table_of}
use Rattle.expression.proofs.NodeBytes.{post_bytes}
use Rattle.witness.specs.Labellings.{labelled_of}
use Rattle.witness.proofs.Labellings.{labelled_long, labelled_says, labelled_iff_witness}
use Rattle.extraction.specs.Extractions.{start_text, text_written, text_left, extracted_of, extracted_left}
use Rattle.extraction.specs.ExtractionAnswers.{DrawnPasses, StartText, IsTable, ExtractionAnswer}
use Rattle.extraction.specs.ExtractionAnswers.{other_chart, other_labels, too_many, too_short, written}
use Rattle.extraction.specs.Writers.{NodesOf, nodes, Wrote}
use Rattle.extraction.proofs.NodeLaws.{nodes_end}
use Rattle.extraction.proofs.StartTexts.{start_text_lem, text_table, one_table}

-- the answer x and the lent bytes t are what is handed back and left
abbrev pub ExtractionGives : (b labels out : List ℕ) → Result ℕ Refusal → List ℕ → Type 0
ExtractionGives b labels out x t = (extracted_of b labels (length out) ≡ x) × (extracted_left b labels out ≡ t)

-- 30 passes where the labelling does
pub passed_long : (b labels : List ℕ) {n : ℕ} → Ok n ≡ labelled_of b labels → length labels ≡ count_of b
passed_long b labels e = by_cases (ℕ_discrete (length labels) (count_of b)) (λ h. h)
    (λ h. let q = e ∙ labelled_long b labels h in let z : ◌≡◌ {A = ℕ} 0 1 = cc in absurd (omega arith))

-- THE TEXT by the test: 58, 54, and the table
abbrev TextGives : (x : Option Expr) (out : List ℕ) → Result ℕ Refusal → List ℕ → Type 0
TextGives x out a t = (text_written x (length out) ≡ a) × (text_left x out ≡ t)

text_too_short : (e : Expr) (out : List ℕ) → length out < 4 * size e
    → TextGives (some e) out (Err (refusal.OutputLength (4 * size e))) out
text_too_short e out h = rw (lt-ltb (length out) (4 * size e) h) (refl, refl)

text_fits : (e : Expr) (out : List ℕ) → 4 * size e ≤ length out → TextGives (some e) out (Ok (4 * size e)) (bytes_with (table_of e) out)
text_fits e out h = rw (le-ltb (length out) (4 * size e) h) (refl, refl)

module _ (b labels out : List ℕ) where
  -- the stages before it
  refused_chart : {p : Refusal} → check_of b ≡ Err p → ExtractionGives b labels out (Err p) out
  unfolding extracted_of extracted_left
  refused_chart e = rw e (refl, refl)

  refused_labels : {p : Refusal} → check_of b ≡ Ok tt → labelled_of b labels ≡ Err p
      → ExtractionGives b labels out (Err p) out
  unfolding extracted_of extracted_left
  refused_labels e f = rw (e, f) (refl, refl)

  passed_both : {n : ℕ} {x : Result ℕ Refusal} {t : List ℕ} → check_of b ≡ Ok tt → labelled_of b labels ≡ Ok n
      → TextGives (start_text b labels) out x t → ExtractionGives b labels out x t
  unfolding extracted_of extracted_left
  passed_both e f g = rw (e, f) g

  -- as the contracts of the code have it
  pub chart_told : {p : Refusal} → Err p ≡ check_of b
      → (Err p ≡ extracted_of b labels (length out)) × (out ≡ extracted_left b labels out)
  chart_told e = let (x, y) = refused_chart (sym e) in (sym x, sym y)

  pub labels_told : {p : Refusal} → check_of b ≡ Ok tt → Err p ≡ labelled_of b labels
      → (Err p ≡ extracted_of b labels (length out)) × (out ≡ extracted_left b labels out)
  labels_told e f = let (x, y) = refused_labels e (sym f) in (sym x, sym y)

  pub text_told : {n : ℕ} {x : Result ℕ Refusal} {t : List ℕ} → check_of b ≡ Ok tt → Ok n ≡ labelled_of b labels
      → (x ≡ text_written (start_text b labels) (length out)) × (t ≡ text_left (start_text b labels) out)
      → (x ≡ extracted_of b labels (length out)) × (t ≡ extracted_left b labels out)
  text_told e f (g, h) = let (x, y) = passed_both e (sym f) (refl, refl) in (g ∙ sym x, h ∙ sym y)

-- WHAT THE WRITER LEAVES is the start's text, or there is none with at most 127 nodes
nodes_post : {nd : ℕ → Node} {e : Expr} {r : ℕ} → NodesOf nd 0 (some e) r → (k : ℕ) × PostOrder nd 0 e k
nodes_post (nodes {r = r} p) = (r, p)

-- the first n bytes of t, written to the beginning of out
pub copied : (n : ℕ) (t out : List ℕ) {part : List ℕ} → n ≤ length t → part ≡ take n t → part ++ drop n out ≡ bytes_with (take n t) out
copied n t out l e = rw (e, length-take-le n t l) refl

module _ (b labels out : List ℕ) {s t : List ℕ} where
  pub none_told : Wrote (StartText b labels) 0 127 s t None
      → (Err TooManyNodes ≡ text_written (start_text b labels) (length out)) × (out ≡ text_left (start_text b labels) out)
  unfolding start_text
  none_told W = rw (fitting_not (drawn_of b labels) 127 (start_of b) 0 (λ g x. omega (arith, W.said g x))) (refl, refl)

  module _ {r : ℕ} (W : Wrote (StartText b labels) 0 127 s t (Some r)) where
    text_is : (e : Expr) × (start_text b labels ≡ some e) × (r ≡ size e) × NodesOf (node t) 0 (some e) r
    unfolding start_text
    text_is =
        let (e, x, p, l) = W.said in
        let z = nodes_end (some e) p in
        (e, (fitting_iff (drawn_of b labels) 127 (start_of b) 0 e).1 (x, omega arith), omega arith, p)

    pub short_told : length out < 4 * r
        → (Err (refusal.OutputLength (4 * r)) ≡ text_written (start_text b labels) (length out))
        × (out ≡ text_left (start_text b labels) out)
    short_told h =
        let (e, q, z, p) = text_is in
        let (x, y) = text_too_short e out (rw z at h) in
        rw q (ap (λ (k : ℕ). Err (refusal.OutputLength (4 * k))) z ∙ sym x, sym y)

    pub table_told : {u : List ℕ} → length t ≡ 508 → 4 * r ≤ length out → u ≡ bytes_with (take (4 * r) t) out
        → (Ok (4 * r) ≡ text_written (start_text b labels) (length out)) × (u ≡ text_left (start_text b labels) out)
    table_told {u} long h f =
        let (e, q, z, p) = text_is in
        let (x, y) = text_fits e out (rw z at h) in
        let g : take (4 * size e) t ≡ table_of e = post_bytes t e (omega (arith, W.said.3)) (nodes_post p).1 in
        let i = ap (λ (k : ℕ). bytes_with (take (4 * k) t) out) z ∙ ap (λ (v : List ℕ). bytes_with v out) g in
        rw q (ap (λ (k : ℕ). Ok (4 * k)) z ∙ sym x, f ∙ i ∙ sym y)

-- EACH ANSWER, both ways
module _ (b labels out : List ℕ) (B : Bytes labels) where
  -- where the labelling passes
  module _ (P : DrawnPasses b labels) where
    passed_number : (n : ℕ) × (labelled_of b labels ≡ Ok n)
    passed_number = (labelled_iff_witness b labels (passes b P.chart) B).1 (P.long, P.reaches, P.witness)

    gives : {x : Result ℕ Refusal} {t : List ℕ} → TextGives (start_text b labels) out x t → ExtractionGives b labels out x t
    gives = passed_both b labels out (passes b P.chart) passed_number.1

    module _ {e : Expr} (t : StartText b labels e) where
      gives_58 : 127 < size e → ExtractionGives b labels out (Err TooManyNodes) out
      unfolding start_text
      gives_58 h = gives (rw ((fitting_none (drawn_of b labels) 127 (start_of b) 0 t).1 h) (refl, refl))

      fits : size e ≤ 127 → start_text b labels ≡ some e
      unfolding start_text
      fits h = (fitting_iff (drawn_of b labels) 127 (start_of b) 0 e).1 (t, h)

      gives_54 : size e ≤ 127 → length out < 4 * size e → ExtractionGives b labels out (Err (refusal.OutputLength (4 * size e))) out
      gives_54 h l = gives (rw (fits h) (text_too_short e out l))

      gives_table : {s : List ℕ} → size e ≤ 127 → 4 * size e ≤ length out → IsTable e s
          → ExtractionGives b labels out (Ok (4 * size e)) (bytes_with s out)
      gives_table h l T = rw (one_table T) (gives (rw (fits h) (text_fits e out l)))

  answer_gives : {x : Result ℕ Refusal} {t : List ℕ} → ExtractionAnswer b labels out x t → ExtractionGives b labels out x t
  answer_gives (other_chart R) = refused_chart b labels out ((chart_refused b _).1 R)
  answer_gives (other_labels W A) = refused_labels b labels out (passes b W) ((labelled_says b labels (passes b W) B _).1 A)
  answer_gives (too_many P t h) = gives_58 P t h
  answer_gives (too_short P t h l) = gives_54 P t h l
  answer_gives (written P t h l T) = gives_table P t h l T

  -- some answer is meant
  some_text : DrawnPasses b labels → (x : Result ℕ Refusal) × (t : List ℕ) × ExtractionAnswer b labels out x t
  some_text P =
      let (e, t) = start_text_lem b labels P in
      by_cases (dec_lt 127 (size e))
      (λ h. ((Err TooManyNodes), out, too_many P t h))
      (λ h. by_cases (dec_lt (length out) (4 * size e))
      (λ l. (Err (refusal.OutputLength (4 * size e)), out, too_short P t (omega arith) l))
      (λ l. (Ok (4 * size e), bytes_with (table_of e) out, written P t (omega arith) (omega arith) (text_table b labels P.chart e t))))

  some_labels : (c : check_of b ≡ Ok tt) (a : Result ℕ Refusal) → labelled_of b labels ≡ a
      → (x : Result ℕ Refusal) × (t : List ℕ) × ExtractionAnswer b labels out x t
  some_labels c (Ok n) e =
      let (l, r, w) = (labelled_iff_witness b labels c B).0 (n, e) in
      some_text (record { chart = well_formed b c; long = l; reaches = r; witness = w })
  some_labels c (Err p) e =
      (Err p, out, other_labels (well_formed b c) ((labelled_says b labels c B (Err p)).0 e))

  some_answer : (x : Result ℕ Refusal) × (t : List ℕ) × ExtractionAnswer b labels out x t
  some_answer = go (check_of b) refl
    where
      go : (a : Result Unit Refusal) → check_of b ≡ a → (x : Result ℕ Refusal) × (t : List ℕ) × ExtractionAnswer b labels out x t
      go (Ok _) c = some_labels c (labelled_of b labels) refl
      go (Err p) c = (Err p, out, other_chart ((chart_refused b p).0 c))

  -- THE CALL answers x and leaves t exactly where document 02 says so
  pub extraction_says : (x : Result ℕ Refusal) (t : List ℕ) → ExtractionGives b labels out x t ↔ ExtractionAnswer b labels out x t
  extraction_says x t = (
    (λ (p, q). let (y, u, A) = some_answer in let (f, g) = answer_gives A in rw (sym f ∙ p, sym g ∙ q) at A),
    answer_gives,
  )
