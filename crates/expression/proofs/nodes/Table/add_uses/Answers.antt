-- `expression::nodes::Table::add_uses` meets its contract. The uses are small enough that two more fit.
use mathlib.Core.Path.{refl}
use native.Mathlib.Omega.{arith}
use Rattle.expression.specs.Uses.{bump}
use Rattle.expression.proofs.KindBytes.{with_operands, without_operands}
use Rattle.expression.proofs.Uses.{tally_none, tally_both}
use Rattle.expression.proofs.nodes.Table.add_uses.Goals as goal

pub returns-then-has_operands : goal.returns-then-has_operands
unfolding bump
returns-then-has_operands c =
    let m = with_operands c.has_operands.ensures c.if-has_operands.true in
    tally_both _ _ c.requires.0 _ _ _ _ _ (omega (arith, c.kind.ensures)) c.left.ensures.0 c.right.ensures.0 refl refl

pub returns-else-has_operands : goal.returns-else-has_operands
returns-else-has_operands c =
    let m = without_operands c.has_operands.ensures c.if-has_operands.false in
    tally_none _ _ c.requires.0 _ (omega (arith, c.kind.ensures))
