use Rattle.chart.specs.Leaving.{leaving_of}
use Rattle.chart.proofs.Lowest.{Looking}
use Rattle.chart.proofs.Chart.lowest_from.Given as goal

abbrev pub invariant-loop-row : goal.invariant-loop-row
invariant-loop-row l = Looking (leaving_of l.self.body.now l.u) l.aim l.row-index
