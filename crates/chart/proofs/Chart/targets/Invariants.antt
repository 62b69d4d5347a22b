use Rattle.bits.specs.Sets.{Members}
use Rattle.chart.specs.Leaving.{leaving_of}
use Rattle.chart.specs.Parts.{Every}
use Rattle.chart.proofs.Rows.{EntersBelow}
use Rattle.chart.proofs.Chart.targets.Given as goal

abbrev pub invariant-loop-row : goal.invariant-loop-row
invariant-loop-row l = Members (EntersBelow (leaving_of l.self.body.now l.u) Every l.row-index) l.set
