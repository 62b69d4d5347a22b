-- What 20 and 21 say of a chart body, each with its place.
use Rattle.std.specs.Prelude.{ℕ, List}
use Rattle.theory.specs.Least.{Least}
use Rattle.report.specs.declared.Refusal.{Refusal}
use Rattle.report.specs.declared.Refusal.TheVariants.{ChartHeader, Transition}
use Rattle.chart.specs.Bodies.{HeaderFits, Faulty}

pub data ChartRefused (b : List ℕ) : Refusal → Type 0 where
  -- 20
  other_header : ¬ HeaderFits b → ChartRefused b ChartHeader
  -- 21
  faulty_at : {p : ℕ} → HeaderFits b → Least (Faulty b) p → ChartRefused b (Transition p)
