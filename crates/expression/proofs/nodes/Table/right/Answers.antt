-- `expression::nodes::Table::right` meets its contract. The right operand of a well-formed node is lower.
use native.Mathlib.Omega.{arith}
use Rattle.expression.proofs.View.{operands}
use Rattle.expression.proofs.nodes.Table.right.Goals as goal

pub returns : goal.returns
returns c =
    let p = operands _ _ c.requires.0.good c.requires.1 in
    (c.byte.ensures.0, omega (arith, p.1, c.byte.ensures.0))
