use Prim.Native.Nat.{ℕ, ◌≤◌, ◌<◌}
use lib.ListN.{get_or}
use Rattle.bisimulation.specs.Pairs.{Alone}
use Rattle.bisimulation.proofs.matching.Tables.alone.Given as goal

abbrev pub invariant-loop-i : goal.invariant-loop-i
invariant-loop-i l = (j : ℕ) → get_or l.self.chart.now.begins.now l.v 0 ≤ j → j < l.i → ¬ Alone l.self.at.now.into l.self.acting.now l.self.chart.now.body.now l.steps j
