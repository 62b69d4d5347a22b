use Prim.Native.Nat.{◌-◌}
use Rattle.bits.specs.Sets.{Difference, size_of}
use Rattle.reach.proofs.Searches.{Searching}
use Rattle.reach.proofs.Reached.closure_from.Given as goal

abbrev pub invariant-loop-left : goal.invariant-loop-left
invariant-loop-left l = Searching l.self.next.now l.stop l.initial.s.seen l.s.seen l.s.past × Difference l.s.seen l.s.past l.left

abbrev pub decreases-loop-left : goal.decreases-loop-left
decreases-loop-left l = 128 - size_of l.s.past
