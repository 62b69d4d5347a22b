use Rattle.witness.specs.Loops.{steps_of, LeftBy}
use Rattle.witness.proofs.Loops.{GivenPass}
use Rattle.witness.proofs.loop_tables.LoopTables.check.Given as goal

abbrev pub invariant-loop-v : goal.invariant-loop-v
invariant-loop-v l = LeftBy l.self.branches.next.now l.part × GivenPass (steps_of l.self) l.yielded
