use Prim.Native.Nat.{ℕ, ◌<◌}
use Rattle.elimination.proofs.LoopLists.{SameAt}
use Rattle.elimination.proofs.loop_list.stands_before.Given as goal

abbrev pub invariant-loop-j : goal.invariant-loop-j
invariant-loop-j l = (k : ℕ) → k < l.j → ¬ SameAt l.loops k l.i
