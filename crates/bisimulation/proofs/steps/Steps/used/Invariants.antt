use Rattle.bisimulation.specs.Suspects.{Used}
use Rattle.bisimulation.proofs.steps.Steps.used.Given as goal

abbrev pub invariant-loop-u : goal.invariant-loop-u
invariant-loop-u l = Used l.self.words.now l.u l.all
