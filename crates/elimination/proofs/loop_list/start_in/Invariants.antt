use Prim.Native.Nat.{ℕ, ◌<◌}
use Rattle.bits.specs.Sets.{Has}
use Rattle.elimination.specs.LoopLists.{start_at}
use Rattle.elimination.proofs.loop_list.start_in.Given as goal

abbrev pub invariant-loop-i : goal.invariant-loop-i
invariant-loop-i l = (k : ℕ) → k < l.i → ¬ Has l.set (start_at l.loops k)
