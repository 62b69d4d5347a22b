use Rattle.witness.specs.Given.{IsBranch, Took}
use Rattle.witness.proofs.tables.Runs.take_branches.Given as goal

abbrev pub invariant-loop-i : goal.invariant-loop-i
invariant-loop-i l = Took l.self.body.now (IsBranch l.self.labels.now) l.initial.i l.end l.initial.all (record { set = l.all; at = l.i })
