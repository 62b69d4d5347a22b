use Prim.Native.Nat.{ℕ, ◌-◌, ◌≤◌, ◌<◌}
use Rattle.bits.specs.Tables.{Table}
use Rattle.bisimulation.specs.Suspects.{Column}
use Rattle.bisimulation.proofs.rows.Relation.columns.Given as goal

abbrev pub invariant-loop-u : goal.invariant-loop-u
invariant-loop-u l = (l.u ≤ l.self.rows) × Table 128 (λ (v z : ℕ). (z < l.u) × Column l.self.bytes.now l.among v z) l.table

abbrev pub decreases-loop-u : goal.decreases-loop-u
decreases-loop-u l = l.self.rows - l.u
