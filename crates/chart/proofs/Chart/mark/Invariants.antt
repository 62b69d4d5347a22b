use Rattle.chart.specs.Leaving.{leaving_of}
use Rattle.chart.specs.Images.{MarksMore}
use Rattle.chart.proofs.Targets.{ActsBelow}
use Rattle.chart.proofs.Chart.mark.Given as goal

abbrev pub invariant-loop-row : goal.invariant-loop-row
invariant-loop-row l = MarksMore (ActsBelow (leaving_of l.self.body.now l.u) l.row-index) l.initial.marks l.marks
