use Prim.Native.Nat.{◌+◌}
use Rattle.bits.specs.Sets.{Members}
use Rattle.bits.specs.Tables.{HasRow}
use Rattle.bits.proofs.Given.{FromGiven}
use Rattle.bits.proofs.tables.united_from.Given as goal

abbrev pub invariant-loop-k : goal.invariant-loop-k
invariant-loop-k l = Members (FromGiven (λ k. HasRow l.table (l.v + k)) l.yielded) l.all
