use mathlib.Core.Logic.{◌↔◌}
use Prim.Native.Nat.{ℕ}
use lib.ListN.{get_or}
use Rattle.bits.specs.Words.{On}
use Rattle.bisimulation.specs.Suspects.{MatchedIn}
use Rattle.bisimulation.proofs.matching.Tables.matched.Given as goal

abbrev pub invariant-loop-i : goal.invariant-loop-i
invariant-loop-i l = (k : ℕ) → On l.steps k ↔ MatchedIn l.self.at.now.into l.self.acting.now l.self.chart.now.body.now (get_or l.self.chart.now.begins.now l.v 0) l.i k
