use Rattle.bisimulation.specs.Classes.{Classes}
use Rattle.bisimulation.proofs.ClassLaws.{Heads}
use Rattle.bisimulation.proofs.rows.Relation.classes.Given as goal

abbrev pub invariant-loop-u : goal.invariant-loop-u
invariant-loop-u l = Classes l.self.bytes.now l.u l.class × Heads l.class l.u l.heads
