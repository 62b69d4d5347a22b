use Rattle.bits.specs.Sets.{Members}
use Rattle.bits.specs.Tables.{HasRow}
use Rattle.bits.proofs.Given.{FromGiven}
use Rattle.bits.proofs.tables.united.Given as goal

abbrev pub invariant-loop-i : goal.invariant-loop-i
invariant-loop-i l = Members (FromGiven (HasRow l.table) l.yielded) l.all
