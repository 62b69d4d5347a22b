use Rattle.bisimulation.specs.Small.{RowsPassBy}
use Rattle.bisimulation.proofs.steps.Steps.small_passes.Given as goal

abbrev pub invariant-loop-u : goal.invariant-loop-u
invariant-loop-u l = RowsPassBy l.self.keys.now l.self.words.now l.self.relation.bytes.now l.chart.body.now l.chart.begins.now l.u
