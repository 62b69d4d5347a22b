use Rattle.bisimulation.proofs.SmallLaws.{Fitting}
use Rattle.bisimulation.proofs.steps.Steps.fitting.Given as goal

abbrev pub invariant-loop-k : goal.invariant-loop-k
invariant-loop-k l = Fitting l.self.keys.now l.self.relation.bytes.now l.chart.body.now l.i l.found
