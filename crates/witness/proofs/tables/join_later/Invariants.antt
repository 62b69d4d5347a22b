use Rattle.bits.specs.Tables.{Gains}
use Rattle.witness.proofs.Later.{Later}
use Rattle.witness.proofs.tables.join_later.Given as goal

abbrev pub invariant-loop-l : goal.invariant-loop-l
invariant-loop-l l = Gains (Later l.initial.table l.l) l.initial.table l.table
