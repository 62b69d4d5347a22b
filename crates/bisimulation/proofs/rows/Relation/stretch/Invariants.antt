use Prim.Native.Nat.{ℕ, ◌≤◌, ◌<◌}
use Rattle.bisimulation.specs.Suspects.{SameRow}
use Rattle.bisimulation.proofs.rows.Relation.stretch.Given as goal

abbrev pub invariant-loop-b : goal.invariant-loop-b
invariant-loop-b l = (j : ℕ) → l.u ≤ j → j < l.b → SameRow l.self.bytes.now l.u j
