use Prim.Native.Nat.{◌≤◌}
use Rattle.bisimulation.specs.Runs.{SameWords, Runs}
use Rattle.bisimulation.proofs.runs.runs.Given as goal

abbrev pub invariant-loop-w : goal.invariant-loop-w
invariant-loop-w l = (l.w ≤ l.end) × (l.end ≤ 128) × SameWords l.into l.w l.end × Runs l.into l.until
