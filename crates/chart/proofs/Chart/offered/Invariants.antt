use Rattle.chart.specs.Images.{ActsFrom, Marks}
use Rattle.bits.proofs.Visits.{FromPast}
use Rattle.chart.proofs.Chart.offered.Given as goal

abbrev pub invariant-loop-u : goal.invariant-loop-u
invariant-loop-u l = Marks (FromPast (ActsFrom l.self.body.now) l.fn.set l.u-iterator.left) l.marks
