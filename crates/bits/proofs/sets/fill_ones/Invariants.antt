use Rattle.bits.specs.Sets.{Ones}
use Rattle.bits.proofs.sets.fill_ones.Given as goal

abbrev pub invariant-loop-k : goal.invariant-loop-k
invariant-loop-k l = Ones l.k l.ones
