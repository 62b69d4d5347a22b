use Prim.Native.Nat.{ℕ, ◌-◌, ◌<◌}
use Rattle.bits.specs.Sets.{empty_set, Difference, size_of}
use Rattle.reach.specs.Searches.{Settles}
use Rattle.reach.proofs.settle.Given as goal

abbrev pub invariant-loop-all : goal.invariant-loop-all
invariant-loop-all l = Settles l.next (λ (x : ℕ). x < l.n) l.initial.after empty_set l.after l.settled × Difference l.all l.settled l.left

abbrev pub decreases-loop-all : goal.decreases-loop-all
decreases-loop-all l = 128 - size_of l.settled
