-- What document 02 says of each answer of writing the expression of a chart (C-14), and of the lent bytes after it.
use Rattle.std.specs.Prelude.{ℕ, ◌*◌, ◌<◌, ◌≤◌, ◌≡◌, List, length, Result, Ok, Err}
use Rattle.theory.specs.Expressions.{Expr}
use Rattle.theory.specs.PostOrders.{PostOrder, size}
use Rattle.theory.specs.Texts.{Text}
use Rattle.theory.specs.Witnesses.{Witness}
use Rattle.report.specs.declared.Refusal.{Refusal}
use Rattle.report.specs.declared.Refusal.TheVariants as refusal
use Rattle.report.specs.declared.Refusal.TheVariants.{TooManyNodes}
use Rattle.bits.specs.Bits.{bytes_with}
use Rattle.chart.specs.Bodies.{start_of, WellFormed}
use Rattle.chart.specs.Refusals.{ChartRefused}
use Rattle.chart.specs.Steps.{StepsOf}
use Rattle.chart.specs.Systems.{drawn_of}
use Rattle.expression.specs.Table.{node}
use Rattle.witness.specs.LabellingAnswers.{Long, Reaches, LabellingAnswer}

module _ (b labels : List ℕ) where
  -- 20, 21 and 30 to 35 pass
  pub record DrawnPasses : Type 0 where
    pub chart : WellFormed b
    pub long : Long b labels
    pub reaches : Reaches b labels
    pub witness : Witness (StepsOf b labels) (start_of b)

  -- the text of the start
  abbrev pub StartText : Expr → Type 0
  StartText e = Text (drawn_of b labels) (start_of b) 0 e

-- s is the body of kind 1 of e: its nodes in post-order, four bytes each, and nothing else
pub record IsTable (e : Expr) (s : List ℕ) : Type 0 where
  pub long : length s ≡ 4 * size e
  pub root : ℕ
  pub ordered : PostOrder (node s) 0 e root

-- EACH ANSWER, with the lent bytes after it; a refusal leaves them as they were
pub data ExtractionAnswer (b labels out : List ℕ) : Result ℕ Refusal → List ℕ → Type 0 where
  -- 20, 21
  other_chart : {p : Refusal} → ChartRefused b p → ExtractionAnswer b labels out (Err p) out
  -- 30 to 35
  other_labels : {p : Refusal} → WellFormed b → LabellingAnswer b labels (Err p)
      → ExtractionAnswer b labels out (Err p) out
  -- 58
  too_many : {e : Expr} → DrawnPasses b labels → StartText b labels e → 127 < size e
      → ExtractionAnswer b labels out (Err TooManyNodes) out
  -- 54, with the bytes needed
  too_short : {e : Expr} → DrawnPasses b labels → StartText b labels e → size e ≤ 127 → length out < 4 * size e
      → ExtractionAnswer b labels out (Err (refusal.OutputLength (4 * size e))) out
  -- the table is written to the beginning, and the bytes past it are kept
  written : {e : Expr} {s : List ℕ} → DrawnPasses b labels → StartText b labels e → size e ≤ 127
      → 4 * size e ≤ length out → IsTable e s → ExtractionAnswer b labels out (Ok (4 * size e)) (bytes_with s out)
