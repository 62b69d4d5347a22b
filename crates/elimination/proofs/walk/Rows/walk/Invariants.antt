use mathlib.Core.Path.{◌≡◌}
use Prim.Native.Nat.{◌+◌, ◌*◌, ◌-◌}
use Rattle.bits.specs.Sets.{size_of}
use Rattle.chart.specs.Steps.{Kept}
use Rattle.elimination.proofs.Walking.{Walking}
use Rattle.elimination.proofs.walk.Rows.walk.Given as goal

abbrev pub invariant-loop-depth : goal.invariant-loop-depth
invariant-loop-depth l = (l.self.chart.now.body.now ≡ l.fn.self.chart.now.body.now)
    × (l.self.standing.now ≡ l.fn.self.standing.now)
    × Walking (Kept l.fn.self.chart.now.body.now l.fn.self.standing.now) l.stops l.targets l.self.read l.past l.back l.body
    l.path l.depth

abbrev pub decreases-loop-depth : goal.decreases-loop-depth
decreases-loop-depth l = 130 * (128 - size_of l.past) + (129 - l.depth)
