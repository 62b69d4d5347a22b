use Prim.Native.Nat.{◌<◌}
use Rattle.bits.proofs.Highest.{HighestTo}
use Rattle.bits.proofs.highest_byte.Given as goal

abbrev pub invariant-loop-byte : goal.invariant-loop-byte
invariant-loop-byte l = (l.top < 256) × HighestTo l.bytes l.byte-index l.top
