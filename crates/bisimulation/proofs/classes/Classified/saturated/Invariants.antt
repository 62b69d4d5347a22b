use Prim.Native.Nat.{ℕ}
use Rattle.bits.specs.Words.{On}
use Rattle.bisimulation.specs.Classes.{Saturated}
use Rattle.bisimulation.proofs.classes.Classified.saturated.Given as goal

abbrev pub invariant-loop-left : goal.invariant-loop-left
invariant-loop-left l = ((k : ℕ) → On l.left k → On l.word k) × Saturated l.self.steps.now.keys.now l.self.class.now l.word l.all

abbrev pub decreases-loop-left : goal.decreases-loop-left
decreases-loop-left l = l.left
