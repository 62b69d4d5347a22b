use lib.ListN.{get_or}
use Rattle.bisimulation.specs.Small.{StepFits}
use Rattle.bisimulation.proofs.SuspectLaws.{Meeting}
use Rattle.bisimulation.proofs.steps.Steps.word_passes.Given as goal

abbrev pub invariant-loop-i : goal.invariant-loop-i
invariant-loop-i l = Meeting (StepFits l.self.keys.now l.self.relation.bytes.now l.chart.body.now) (get_or l.chart.begins.now l.v 0) l.word l.matched l.i
