use Rattle.std.proofs.Common.{◌*◌, ◌≤◌, ◌+◌}
use Rattle.cases.specs.declared.records.TheConstants.{ROOM}
use Rattle.cases.proofs.records.Parts.join.Given as goal

-- `cases::records::Parts::join` meets its contract: no record adds more than its room and its header.
abbrev pub invariant-loop-part : goal.invariant-loop-part
invariant-loop-part l =
    (l.initial.end ≤ l.end) × (l.end ≤ l.initial.end + (ROOM + 4) * l.part-index)
