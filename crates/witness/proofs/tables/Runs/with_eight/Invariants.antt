use Rattle.witness.specs.Given.{WithTargets}
use Rattle.witness.proofs.tables.Runs.with_eight.Given as goal

abbrev pub invariant-loop-i : goal.invariant-loop-i
invariant-loop-i l = WithTargets l.self.body.now l.at l.i l.initial.all l.all
