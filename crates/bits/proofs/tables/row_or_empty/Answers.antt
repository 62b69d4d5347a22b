use mathlib.Core.Path.{sym, ◌∙◌}
use native.Mathlib.Omega.{arith}
use Rattle.bits.proofs.Gains.{row_beyond}
use Rattle.bits.proofs.tables.row_or_empty.Goals as goal

pub returns-then-v-table : goal.returns-then-v-table
returns-then-v-table c =
    c.empty.ensures ∙ sym (row_beyond c.args.table.now c.args.v (omega (arith, c.requires.1, c.if-v-table.true)))
