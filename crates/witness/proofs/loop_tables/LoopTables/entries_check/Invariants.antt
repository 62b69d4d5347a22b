use Prim.Native.Nat.{ℕ, ◌-◌, ◌<◌}
use Rattle.std.specs.Prelude.{IfSome, unwrap_or}
use Rattle.bits.specs.Tables.{Table}
use Rattle.witness.specs.Given.{EntryLevels, EntryTargets}
use Rattle.witness.specs.Loops.{steps_of}
use Rattle.witness.proofs.Loops.{VertexTo}
use Rattle.witness.proofs.loop_tables.LoopTables.entries_check.Given as goal

abbrev pub invariant-loop-next : goal.invariant-loop-next
invariant-loop-next l = Table 2 (EntryLevels (steps_of l.self) l.v) l.levels × Table 256 (EntryTargets (steps_of l.self) l.v) l.targets
    × VertexTo (steps_of l.self) l.v (unwrap_or l.next 256) l.seen × IfSome l.next (λ (level : ℕ). level < 256)

abbrev pub decreases-loop-next : goal.decreases-loop-next
decreases-loop-next l = 256 - unwrap_or l.next 256
