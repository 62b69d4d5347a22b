-- Of a chart and a labelling that pass the start has a text; its table passes 10 to 12 where it has at most 127 nodes, and no
-- other bytes are its table.
use Prim.Native.Nat.{ℕ, ◌*◌, ◌≤◌}
use mathlib.Core.Path.{◌≡◌, sym, ◌∙◌}
use mathlib.Core.List.{List}
use native.Mathlib.Omega.{arith}
use lib.Seq.{take_all}
use Rattle.theory.specs.Expressions.{Expr}
use Rattle.theory.specs.PostOrders.{size, root_from, Acting}
use Rattle.theory.proofs.Checks.{passed_iff_witness, passed_same}
use Rattle.theory.proofs.Texts.{has_text, text_acting}
use Rattle.std.specs.Prelude.{Ok}
use Rattle.chart.specs.Bodies.{start_of, WellFormed}
use Rattle.chart.specs.Systems.{drawn_of}
use Rattle.chart.proofs.Relations.{steps_formed, drawn_steps, drawn_formed}
use Rattle.expression.specs.Table.{check_of}
use Rattle.expression.specs.NodeBytes.{table_of}
use Rattle.expression.proofs.NodeBytes.{Positive, table_length, table_post, table_passes, post_bytes}
use Rattle.extraction.specs.ExtractionAnswers.{DrawnPasses, StartText, IsTable}

module _ (b labels : List ℕ) where
  pub start_text_lem : DrawnPasses b labels → (e : Expr) × StartText b labels e
  start_text_lem P =
      has_text (drawn_of b labels) (drawn_formed b labels P.chart)
      (passed_same (drawn_steps b labels) ((passed_iff_witness (steps_formed b labels P.chart) (start_of b) P.reaches).1 P.witness))
      (start_of b) (omega (arith, P.chart.header.start_low))

  module _ (W : WellFormed b) (e : Expr) (t : StartText b labels e) where
    pub text_positive : Acting Positive e
    text_positive = text_acting (drawn_of b labels) Positive (λ i h. (W.each i h).action_low) t

    pub text_passes : size e ≤ 127 → check_of (table_of e) ≡ Ok tt
    text_passes = table_passes e text_positive

    -- its table has it in post-order
    pub text_table : IsTable e (table_of e)
    text_table = record { long = table_length e; root = root_from 0 e; ordered = table_post e text_positive }

-- and there is no other
pub one_table : {e : Expr} {s : List ℕ} → IsTable e s → s ≡ table_of e
one_table {e} {s} T = sym (take_all (4 * size e) s (omega (arith, T.long))) ∙ post_bytes s e (omega (arith, T.long)) T.ordered
