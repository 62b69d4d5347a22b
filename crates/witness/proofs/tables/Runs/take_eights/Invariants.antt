use Prim.Native.Nat.{◌-◌}
use Rattle.witness.specs.Given.{HasLabel, Took}
use Rattle.witness.proofs.tables.Runs.take_eights.Given as goal

abbrev pub invariant-loop-i : goal.invariant-loop-i
invariant-loop-i l = Took l.self.body.now (HasLabel l.self.labels.now l.label) l.at l.end l.initial.all (record { set = l.all; at = l.i })

abbrev pub decreases-loop-i : goal.decreases-loop-i
decreases-loop-i l = l.end - l.i
