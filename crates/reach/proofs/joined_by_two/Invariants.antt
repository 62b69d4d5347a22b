use Rattle.bits.specs.Sets.{size_of}
use Rattle.reach.proofs.Searches.{Joining}
use Rattle.reach.proofs.joined_by_two.Given as goal

abbrev pub invariant-loop-left : goal.invariant-loop-left
invariant-loop-left l = Joining l.after l.initial.left l.all l.left

abbrev pub decreases-loop-left : goal.decreases-loop-left
decreases-loop-left l = size_of l.left
