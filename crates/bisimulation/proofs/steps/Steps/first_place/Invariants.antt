use Prim.Native.Nat.{◌*◌, ◌≤◌}
use Rattle.bisimulation.specs.Places.{FirstPlace}
use Rattle.bisimulation.proofs.steps.Steps.first_place.Given as goal

abbrev pub invariant-loop-x : goal.invariant-loop-x
invariant-loop-x l = (l.at ≤ 64 * l.x) × FirstPlace l.self.words.now l.x l.at
