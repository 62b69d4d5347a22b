use Rattle.bits.proofs.SetWriting.{Writing}
use Rattle.bits.proofs.sets.set_bytes.Given as goal

abbrev pub invariant-loop-v : goal.invariant-loop-v
invariant-loop-v l = Writing l.yielded l.bytes
