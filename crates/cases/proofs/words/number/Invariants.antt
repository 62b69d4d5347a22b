use Rattle.std.proofs.Common.{◌<◌}
use Rattle.cases.proofs.words.number.Given as goal

-- `cases::words::number` meets its contract: no digit is taken once there are six.
abbrev pub invariant-loop-byte : goal.invariant-loop-byte
invariant-loop-byte l = l.value < 1000000
