use lib.ListN.{get_or}
use Prim.Native.Nat.{◌-◌, ◌≤◌}
use Rattle.bisimulation.specs.Suspects.{Knows}
use Rattle.bisimulation.proofs.ClearLaws.{Walking}
use Rattle.bisimulation.proofs.clearing.Clearing.walk.Given as goal

abbrev pub invariant-loop-i : goal.invariant-loop-i
invariant-loop-i l = (l.i ≤ l.b)
    × Walking l.tables.at.now.into l.tables.acting.now l.self.users.now l.tables.chart.now.body.now (get_or l.tables.chart.now.begins.now l.v 0) l.initial.able l.matched l.last l.able l.i
    × Knows l.self.users.now l.known

abbrev pub decreases-loop-i : goal.decreases-loop-i
decreases-loop-i l = l.b - l.i
