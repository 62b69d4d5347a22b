use Rattle.std.proofs.Common.{◌≤◌}
use Rattle.cases.proofs.records.Parts.repeat.Given as goal

-- `cases::records::Parts::repeat` meets its contract: a step is no further on than the byte that it is for.
abbrev pub invariant-loop-i : goal.invariant-loop-i
invariant-loop-i l = l.turn ≤ l.i
