use Rattle.std.proofs.Common.{◌≤◌}
use Rattle.cases.proofs.words.write_hex.Given as goal

-- `cases::words::write_hex` meets its contract: there are no more digits than bytes of the text.
abbrev pub invariant-loop-byte : goal.invariant-loop-byte
invariant-loop-byte l = l.digits ≤ l.byte-index
