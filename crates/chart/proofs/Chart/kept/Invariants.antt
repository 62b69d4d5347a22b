use Rattle.bits.specs.Sets.{Members}
use Rattle.chart.specs.Leaving.{leaving_of}
use Rattle.chart.specs.Steps.{At}
use Rattle.chart.proofs.Rows.{EntersBelow}
use Rattle.chart.proofs.Chart.kept.Given as goal

abbrev pub invariant-loop-i : goal.invariant-loop-i
invariant-loop-i l = Members (EntersBelow (leaving_of l.self.body.now l.u) (At l.beside 1) l.i) l.set
