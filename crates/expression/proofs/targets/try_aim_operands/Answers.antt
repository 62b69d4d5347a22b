-- `expression::targets::try_aim_operands` meets its contract. The tests are those of a turn, and the two stores those of `aim`.
use mathlib.Core.Path.{sym, ◌∙◌}
use mathlib.Core.Bool.{false≢true}
use native.Mathlib.Omega.{arith}
use Rattle.expression.proofs.KindBytes.{with_operands, without_operands}
use Rattle.expression.proofs.Trees.{turn_none, turn_both, no_turn}
use Rattle.expression.proofs.targets.try_aim_operands.Goals as goal

pub returns-then-not-has_operands : goal.returns-then-not-has_operands
returns-then-not-has_operands c =
    let good = sym c.node_ok.ensures ∙ c.if-not-node_ok.false in
    let m = without_operands c.has_operands.ensures c.if-not-has_operands.true in
    let turn = turn_none _ _ good _ c.if-own.false (omega (arith, c.kind-kind.ensures)) in
    ((λ e. turn), (λ e. absurd (false≢true (sym e))))

pub returns : goal.returns
returns c =
    let kind = c.kind-kind.ensures in
    let m = with_operands c.has_operands.ensures c.if-not-has_operands.false in
    let good = sym c.node_ok.ensures ∙ c.if-not-node_ok.false in
    let el = c.left-left.ensures.0 in
    let er = c.right-right.ensures.0 in (
      (λ e. turn_both _ _ good _ c.if-own.false _ _ _ _ (omega arith) kind el er c.left_target.ensures e),
      (λ e. no_turn _ _ good _ _ _ (omega arith) el er e),
    )
