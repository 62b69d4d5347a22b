use Prim.Native.Nat.{◌*◌, ◌≤◌}
use Rattle.witness.proofs.Sizes.{CountedTo}
use Rattle.witness.proofs.tables.count_loops.Given as goal

abbrev pub invariant-loop-k : goal.invariant-loop-k
invariant-loop-k l = (l.loops ≤ 256 * l.k) × CountedTo l.entered (2 * l.k) l.loops
