use Prim.Native.Nat.{◌-◌, ◌≤◌}
use Rattle.bits.specs.Tables.{Table}
use Rattle.bisimulation.specs.Suspects.{UsedBy}
use Rattle.bisimulation.proofs.steps.Steps.users.Given as goal

abbrev pub invariant-loop-u : goal.invariant-loop-u
invariant-loop-u l = (l.u ≤ l.self.relation.rows) × Table 64 (UsedBy l.self.words.now l.u) l.table

abbrev pub decreases-loop-u : goal.decreases-loop-u
decreases-loop-u l = l.self.relation.rows - l.u
