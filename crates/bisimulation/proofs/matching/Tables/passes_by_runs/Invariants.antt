use lib.ListN.{get_or}
use Prim.Native.Nat.{ℕ, ◌-◌, ◌≤◌}
use Rattle.bisimulation.specs.Suspects.{Match}
use Rattle.bisimulation.proofs.SuspectLaws.{Meeting}
use Rattle.bisimulation.proofs.matching.Tables.passes_by_runs.Given as goal

abbrev pub invariant-loop-i : goal.invariant-loop-i
invariant-loop-i l = (l.i ≤ l.b)
    × Meeting (λ (j k : ℕ). Match l.self.at.now.into l.self.acting.now l.self.chart.now.body.now j k) (get_or l.self.chart.now.begins.now l.v 0) l.every l.matched l.i

abbrev pub decreases-loop-i : goal.decreases-loop-i
decreases-loop-i l = l.b - l.i
