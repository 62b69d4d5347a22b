-- The chart of the table of the start's text is bisimilar to the drawn chart.
use mathlib.Core.Path.{refl}
use Prim.Native.Nat.{ℕ, suc, ◌<◌}
use native.Mathlib.Omega.{arith}
use Rattle.theory.specs.Expressions.{Expr}
use Rattle.theory.specs.Charts.{Formed}
use Rattle.theory.specs.Relations.{indexed}
use Rattle.theory.specs.Systems.{Bisimulation}
use Rattle.theory.specs.Nodes.{Node}
use Rattle.theory.specs.Transitions.{chart}
use Rattle.theory.specs.ExpressionCharts.{transitions}
use Rattle.theory.specs.LabelledCharts.{LabelledChart, labelled_steps}
use Rattle.theory.specs.Texts.{Text}
use Rattle.theory.specs.PostOrders.{PostOrder}
use Rattle.theory.specs.Remains.{RemainsAt}
use Rattle.theory.proofs.Rules.{chart_rules}
use Rattle.theory.proofs.Systems.{composed}
use Rattle.theory.proofs.PostOrders.{post_tree, post_expr}
use Rattle.theory.proofs.Remains.{text_bisimulation}

module _ (c : LabelledChart) (vertices : ℕ) (formed : Formed vertices (labelled_steps c)) (low : c.chart.start < vertices) where
  pub table_bisimulation : (nd : ℕ → Node) (e : Expr) (root : ℕ) → PostOrder nd 0 e root → Text c c.chart.start 0 e
      → Bisimulation (chart (suc root) (transitions nd (suc root))) (indexed c.chart) (RemainsAt c vertices nd (suc root))
  table_bisimulation nd e root h t =
      composed
      (rw (post_expr (post_tree h) h (omega arith)) at (chart_rules nd (suc root) (post_tree h) root refl))
      (text_bisimulation c vertices formed e low t)
