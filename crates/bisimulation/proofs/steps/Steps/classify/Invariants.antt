use Rattle.bisimulation.specs.Suspects.{Acting}
use Rattle.bisimulation.specs.Classes.{Leading}
use Rattle.bisimulation.proofs.steps.Steps.classify.Given as goal

abbrev pub invariant-loop-k : goal.invariant-loop-k
invariant-loop-k l = Leading l.self.keys.now l.class l.k l.leading × Acting l.self.keys.now l.k l.acting
