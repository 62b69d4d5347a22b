use Prim.Native.Nat.{ℕ, ◌<◌}
use Rattle.bisimulation.specs.Answers.{StrayBit}
use Rattle.bisimulation.proofs.strays.Given as goal

abbrev pub invariant-loop-u : goal.invariant-loop-u
invariant-loop-u l = (a : ℕ) → a < l.u → (v : ℕ) → ¬ StrayBit l.body l.relation.bytes.now a v
