use Rattle.bisimulation.specs.Suspects.{Knows, Gathered}
use Rattle.bisimulation.proofs.clearing.Clearing.gather.Given as goal

abbrev pub invariant-loop-v : goal.invariant-loop-v
invariant-loop-v l = Knows l.self.users.now l.known
    × Gathered l.columns l.self.tables.now.at.now.into l.self.tables.now.acting.now l.self.users.now l.self.used l.self.tables.now.chart.now.body.now l.v l.table
