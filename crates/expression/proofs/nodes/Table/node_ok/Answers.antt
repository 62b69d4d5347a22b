-- `expression::nodes::Table::node_ok` meets its contract. The tests are those of `parse`, by the kind.
use mathlib.Core.Path.{refl, ap, sym, ◌∙◌}
use native.Mathlib.Omega.{arith}
use Rattle.expression.specs.Kinds.{byte_of}
use Rattle.expression.proofs.KindBytes.{of_operator}
use Rattle.expression.proofs.View.{good_dead, good_leaf, good_branch, good_none}
use Rattle.expression.proofs.nodes.Table.node_ok.Goals as goal

pub returns-in_default : goal.returns-in_default
returns-in_default c = let e = c.in_default.ensures in good_none _ _ _ _ _ _ refl refl refl refl e.1

pub returns-in-Deadlock : goal.returns-in-Deadlock
returns-in-Deadlock c =
    good_dead _ _ _ _ _ _ refl c.byte-action.ensures.0 c.byte-left.ensures.0 c.byte-right.ensures.0
    (sym c.in-Ok.ensures ∙ ap byte_of c.in-Deadlock.is)

pub returns-in-Action : goal.returns-in-Action
returns-in-Action c =
    good_leaf _ _ _ _ _ _ refl c.byte-action.ensures.0 c.byte-left.ensures.0 c.byte-right.ensures.0
    (sym c.in-Ok.ensures ∙ ap byte_of c.in-Action.is)

pub returns-in-Sum : goal.returns-in-Sum
returns-in-Sum c =
    let e = c.in-Ok.ensures in
    let b = of_operator c.in-Sum.is in
    good_branch _ _ _ _ _ _ refl c.byte-action.ensures.0 c.byte-left.ensures.0 c.byte-right.ensures.0
    (omega arith) (omega arith)
