use Prim.Native.Nat.{◌-◌}
use Rattle.bits.specs.Sets.{Has, Difference, size_of}
use Rattle.reach.proofs.Searches.{Searching}
use Rattle.reach.proofs.closure.Given as goal

abbrev pub invariant-loop-past : goal.invariant-loop-past
invariant-loop-past l = Searching l.next l.stop l.initial.seen l.seen l.past × Has l.past l.stop × Difference l.seen l.past l.left

abbrev pub decreases-loop-past : goal.decreases-loop-past
decreases-loop-past l = 128 - size_of l.past
