use Rattle.bisimulation.specs.Classes.{Spread, RowsIn}
use Rattle.bisimulation.proofs.suspects.ClassTables.spread.Given as goal

abbrev pub invariant-loop-c : goal.invariant-loop-c
invariant-loop-c l = Spread l.self.relation.now.bytes.now l.self.class.now l.self.leading.now l.self.every.now l.self.some.now l.c l.at.into l.at.all l.at.any
    × RowsIn l.self.relation.now.bytes.now l.self.class.now l.c l.related
