use Rattle.bits.specs.Sets.{Members}
use Rattle.chart.specs.Steps.{Stands}
use Rattle.chart.proofs.Rows.{EntersBelow}
use Rattle.elimination.proofs.opening.labelled_in.Given as goal

abbrev pub invariant-loop-i : goal.invariant-loop-i
invariant-loop-i l = Members (EntersBelow l.part (Stands l.labels l.standing l.level) l.i) l.set
