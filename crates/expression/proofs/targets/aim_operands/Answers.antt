-- `expression::targets::aim_operands` meets its contract. The two stores are those of `aim`.
use native.Mathlib.Omega.{arith}
use Rattle.expression.proofs.Aims.{aim_none, aim_both}
use Rattle.expression.proofs.KindBytes.{with_operands, without_operands}
use Rattle.expression.proofs.targets.aim_operands.Goals as goal

pub returns-then-not-has_operands : goal.returns-then-not-has_operands
returns-then-not-has_operands c =
    let m = without_operands c.has_operands.ensures c.if-not-has_operands.true in
    aim_none _ _ (c.args.tree.now.formed.good _ c.requires) _ (omega (arith, c.kind-kind.ensures))

pub returns : goal.returns
returns c =
    let m = with_operands c.has_operands.ensures c.if-not-has_operands.false in
    let kind = c.kind-kind.ensures in
    aim_both _ _ (c.args.tree.now.formed.good _ c.requires) _ _ _ _ _ (omega arith) kind
    c.left-left.ensures.0 c.right-right.ensures.0 c.left_target.ensures
