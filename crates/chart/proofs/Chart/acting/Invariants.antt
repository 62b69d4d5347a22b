use Prim.Native.Nat.{◌+◌}
use Rattle.bits.specs.Sets.{Members}
use Rattle.chart.specs.Leaving.{leaving_of}
use Rattle.chart.specs.Parts.{ActsAt}
use Rattle.chart.proofs.Rows.{EntersBelow}
use Rattle.chart.proofs.Chart.acting.Given as goal

abbrev pub invariant-loop-row : goal.invariant-loop-row
invariant-loop-row l = let part = leaving_of l.self.body.now l.u in Members (EntersBelow part (ActsAt part l.action) (l.lower + l.row-index)) l.set
