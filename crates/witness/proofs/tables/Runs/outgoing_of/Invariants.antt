use Prim.Native.Nat.{◌-◌, ◌≤◌}
use Rattle.bits.specs.Tables.{Gains}
use Rattle.witness.specs.Given.{Enters, OutgoingOf}
use Rattle.witness.proofs.Seen.{Seen}
use Rattle.witness.proofs.tables.Runs.outgoing_of.Given as goal

abbrev pub invariant-loop-i : goal.invariant-loop-i
invariant-loop-i l = (l.initial.i ≤ l.i) × (l.i ≤ l.end)
    × OutgoingOf (Seen l.self.body.now l.self.labels.now l.initial.i l.i) l.u (record { branches = l.branches; entries = l.entries })
    × Gains (Enters (Seen l.self.body.now l.self.labels.now l.initial.i l.i)) l.initial.entered l.entered

abbrev pub decreases-loop-i : goal.decreases-loop-i
decreases-loop-i l = l.end - l.i
