use Prim.Native.Nat.{ℕ, ◌<◌}
use Rattle.elimination.specs.LoopLists.{StandsBefore}
use Rattle.elimination.proofs.loop_list.list_fits.Given as goal

abbrev pub invariant-loop-i : goal.invariant-loop-i
invariant-loop-i l = (k : ℕ) → k < l.i → ¬ StandsBefore l.loops k
