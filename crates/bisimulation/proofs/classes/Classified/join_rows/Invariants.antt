use Rattle.bisimulation.specs.Classes.{ClassSteps}
use Rattle.bisimulation.proofs.classes.Classified.join_rows.Given as goal

abbrev pub invariant-loop-u : goal.invariant-loop-u
invariant-loop-u l = ClassSteps l.self.steps.now.keys.now l.self.steps.now.words.now l.self.class.now l.u l.every l.some
