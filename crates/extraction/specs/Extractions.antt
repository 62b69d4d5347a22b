-- An expression for a chart with its labelling (document 02, C-14), as tests that run: the answer, and the lent bytes
-- after it.
use Rattle.std.specs.Prelude.{ℕ, ◌*◌, cond, List, ltb, length, Result, Ok, Err}
use Rattle.std.proofs.Math.Option.{Option, none, some}
use Rattle.theory.specs.Expressions.{Expr}
use Rattle.theory.specs.PostOrders.{size}
use Rattle.theory.specs.TextTests.{fitting}
use Rattle.report.specs.Stages.{after, when_done}
use Rattle.report.specs.declared.Refusal.{Refusal}
use Rattle.report.specs.declared.Refusal.TheVariants as refusal
use Rattle.report.specs.declared.Refusal.TheVariants.{TooManyNodes}
use Rattle.bits.specs.Bits.{bytes_with}
use Rattle.chart.specs.Bodies.{start_of}
use Rattle.chart.specs.Checks.{check_of}
use Rattle.chart.specs.Systems.{drawn_of}
use Rattle.expression.specs.NodeBytes.{table_of}
use Rattle.witness.specs.Labellings.{labelled_of}

-- the start's text, where it has at most 127 nodes
unfoldable pub start_text : List ℕ → List ℕ → Option Expr
start_text b labels = fitting (drawn_of b labels) 127 (start_of b) 0

-- 58, then 54
abbrev pub text_written : Option Expr → ℕ → Result ℕ Refusal
text_written none lent = Err TooManyNodes
text_written (some e) lent =
    cond (ltb lent (4 * size e)) (Err (refusal.OutputLength (4 * size e))) (Ok (4 * size e))

-- the lent bytes: as they were, or the table and what stood past it
abbrev pub text_left : Option Expr → List ℕ → List ℕ
text_left none out = out
text_left (some e) out = cond (ltb (length out) (4 * size e)) out (bytes_with (table_of e) out)

-- the answer for so many lent bytes: 20, 21, 30 to 35, 58, 54
unfoldable pub extracted_of : List ℕ → List ℕ → ℕ → Result ℕ Refusal
extracted_of b labels lent =
    after (check_of b) (after (labelled_of b labels) (text_written (start_text b labels) lent))

-- the lent bytes after the call
unfoldable pub extracted_left : List ℕ → List ℕ → List ℕ → List ℕ
extracted_left b labels out =
    when_done (check_of b) (when_done (labelled_of b labels) (text_left (start_text b labels) out) out) out
