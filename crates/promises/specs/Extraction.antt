-- An expression for a chart with its labelling (document 02, C-14), by the numbers; and what holds of the start's text
-- and of the table that is written. What each answer says, with the lent bytes after it, is `ExtractionAnswer`.
use Rattle.std.specs.Prelude.{◌≡◌, ◌↔◌, List, [], ◌∷◌, ℕ, ◌*◌, ◌<◌, ◌≤◌, length, Ok}
use Rattle.theory.specs.Expressions.{Expr}
use Rattle.theory.specs.PostOrders.{size}
use Rattle.report.specs.declared.Numbers.{Numbers}
use Rattle.report.specs.Numbers.{accepted_with}
use Rattle.report.specs.Numbers.{four, length_numbers}
use Rattle.bits.specs.Bits.{Bytes, bytes_with}
use Rattle.chart.specs.Bodies.{vertices_of, count_of}
use Rattle.chart.specs.Steps.{StepsOf}
use Rattle.expression.specs.Table.{check_of}
use Rattle.expression.specs.Body.{body_of}
use Rattle.bisimulation.specs.Relations.{relation_of}
use Rattle.verdict.specs.Files.{file_of}
use Rattle.verdict.specs.Verdicts.{verdict_of}
use Rattle.extraction.specs.Extractions.{extracted_of, extracted_left}
use Rattle.extraction.specs.ExtractionAnswers.{StartText, IsTable, ExtractionAnswer}
use Rattle.promises.specs.Accepted.{NumberOfLoops}
use Rattle.promises.specs.Numbered.{Gives, ByNumbers}

module _ (b labels out : List ℕ) where
  -- the answer has these numbers, and these bytes are left
  abbrev pub ExtractionGives : Numbers → (t : List ℕ) → Type 0
  ExtractionGives = Gives length_numbers (extracted_of b labels (length out)) (extracted_left b labels out)

  -- it answers n p q r and leaves these bytes exactly where that is meant
  abbrev pub ExtractionByNumbers : Type 0
  ExtractionByNumbers = ByNumbers length_numbers (ExtractionAnswer b labels out)
      (extracted_of b labels (length out)) (extracted_left b labels out)

-- OF EVERY CHART AND LABELLING THAT PASS
pub record OfStartTexts (b labels : List ℕ) : Type 0 where
  -- the start has a text, and only one
  pub found : (e : Expr) × StartText b labels e
  pub only : {e f : Expr} → StartText b labels e → StartText b labels f → e ≡ f
  -- it has a table of bytes, and only one
  pub table : {e : Expr} → StartText b labels e → (s : List ℕ) × IsTable e s
  pub one_table : {e : Expr} {s t : List ℕ} → IsTable e s → IsTable e t → s ≡ t
  -- where it has at most 127 nodes, and room, that is written; 58 is refused exactly where it has more
  pub few : {e : Expr} {s : List ℕ} → StartText b labels e → IsTable e s → size e ≤ 127
      → (out : List ℕ) → 4 * size e ≤ length out
      → ExtractionGives b labels out (four 0 (4 * size e) 0 0) (bytes_with s out)
  pub more : {e : Expr} → StartText b labels e → (out : List ℕ)
      → (127 < size e) ↔ ExtractionGives b labels out (four 58 0 0 0) out

-- OF EVERY TABLE s THAT IS WRITTEN
pub record OfWritten (b labels s : List ℕ) : Type 0 where
  -- it is the table of the start's text
  pub text : Expr
  pub is_text : StartText b labels text
  pub is_table : IsTable text s
  -- it passes 10 to 12, and some relation passes 40 to 45 against the chart
  pub passes : check_of s ≡ Ok tt
  pub relation : List ℕ
  pub relation_bytes : Bytes relation
  pub related : relation_of (body_of s) b relation ≡ Ok tt
  -- so the yard file of the table, the chart, its labelling and that relation is accepted
  pub loops : ℕ
  pub number_of_loops : NumberOfLoops (StepsOf b labels) loops
  pub accepted : verdict_of (file_of s b labels relation) ≡ Ok (accepted_with (vertices_of b) (count_of b) loops)

-- DOCUMENT 01'S G: its chart, its labels, and the nodes of its expression
abbrev pub chart_g : List ℕ
chart_g = 2 ∷ 1 ∷ 2 ∷ 0 ∷ 1 ∷ 1 ∷ 1 ∷ 0 ∷ 1 ∷ 2 ∷ 0 ∷ 0 ∷ []

abbrev pub labels_g : List ℕ
labels_g = 1 ∷ 0 ∷ []

abbrev pub nodes_g : List ℕ
nodes_g = 1 ∷ 1 ∷ 0 ∷ 0 ∷ 1 ∷ 2 ∷ 0 ∷ 0 ∷ 4 ∷ 0 ∷ 0 ∷ 1 ∷ []

-- its chart gives its expression
abbrev pub GivesG : Type 0
GivesG = (out : List ℕ) → 12 ≤ length out → ExtractionGives chart_g labels_g out (four 0 12 0 0) (bytes_with nodes_g out)
