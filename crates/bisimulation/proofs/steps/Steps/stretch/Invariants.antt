use Prim.Native.Nat.{ℕ, ◌≤◌, ◌<◌}
use Rattle.bisimulation.specs.Suspects.{SameWord}
use Rattle.bisimulation.proofs.steps.Steps.stretch.Given as goal

abbrev pub invariant-loop-b : goal.invariant-loop-b
invariant-loop-b l = (j : ℕ) → l.u ≤ j → j < l.b → SameWord l.self.words.now l.u j
