use Prim.Native.Nat.{◌+◌, ◌-◌, ◌≤◌}
use lib.ListN.{length}
use Rattle.chart.specs.Parts.{Lower}
use Rattle.chart.proofs.images.skip_lower.Given as goal

abbrev pub invariant-loop-end : goal.invariant-loop-end
invariant-loop-end l = (8 ≤ l.end) × Lower l.rows l.action (l.end - 8)

abbrev pub decreases-loop-end : goal.decreases-loop-end
decreases-loop-end l = length l.rows + 8 - l.end
