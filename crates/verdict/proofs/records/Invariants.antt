use mathlib.Core.Path.{◌≡◌}
use Prim.Native.Nat.{◌-◌, ◌≤◌}
use lib.ListN.{length}
use Rattle.verdict.specs.Files.{records_from, records_of}
use Rattle.verdict.proofs.records.Given as goal

abbrev pub invariant-loop-kind : goal.invariant-loop-kind
invariant-loop-kind l = (records_from l.file l.kind l.at (5 - l.kind) ≡ records_of l.file) × (l.at ≤ length l.file) × (length l.file ≤ 43536)
