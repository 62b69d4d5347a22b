use Rattle.witness.proofs.Entries.{Marking}
use Rattle.witness.proofs.loop_tables.LoopTables.entries_pass.Given as goal

abbrev pub invariant-loop-i : goal.invariant-loop-i
invariant-loop-i l = Marking l.all l.self.labelling.chart.now.body.now l.self.labelling.labels.now l.self.branches.after.now l.self.high.now
    l.v l.initial.i l.i l.levels
