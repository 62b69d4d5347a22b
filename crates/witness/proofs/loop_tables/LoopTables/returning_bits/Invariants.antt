use Prim.Native.Nat.{ℕ, ◌+◌}
use Rattle.witness.specs.Loops.{Back}
use Rattle.witness.proofs.Sifting.{Sifting}
use Rattle.witness.proofs.loop_tables.LoopTables.returning_bits.Given as goal

abbrev pub invariant-loop-k : goal.invariant-loop-k
invariant-loop-k l = Sifting (λ (k : ℕ). Back l.self.branches.after.now l.v (l.from + k)) l.yielded l.found
