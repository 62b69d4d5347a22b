use Rattle.bits.specs.Sets.{Members}
use Rattle.witness.specs.Loops.{DeadEnd}
use Rattle.witness.proofs.loop_tables.LoopTables.dead_ends.Given as goal

abbrev pub invariant-loop-v : goal.invariant-loop-v
invariant-loop-v l = Members (DeadEnd l.self.branches.next.now l.v) l.ends
