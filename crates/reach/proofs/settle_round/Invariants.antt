use Prim.Native.Nat.{ℕ}
use Rattle.bits.specs.Sets.{Has}
use Rattle.reach.specs.Searches.{Settles}
use Rattle.reach.proofs.settle_round.Given as goal

abbrev pub invariant-loop-w : goal.invariant-loop-w
invariant-loop-w l = Settles l.next (Has l.fn.among) l.initial.after l.initial.past l.after l.past
    × ((x : ℕ) → Has l.w-iterator.left x → ¬ Has l.past x)
