use Rattle.bits.specs.Tables.{Gains}
use Rattle.witness.specs.Given.{IsEntry, Took, LevelsOf}
use Rattle.witness.proofs.tables.Runs.take_each_entry.Given as goal

abbrev pub invariant-loop-i : goal.invariant-loop-i
invariant-loop-i l = Took l.self.body.now (IsEntry l.self.labels.now) l.at l.end l.initial.all (record { set = l.all; at = l.i })
    × Gains (LevelsOf l.self.labels.now l.at l.i l.u) l.initial.entered l.entered
