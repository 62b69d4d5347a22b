-- `expression::nodes::Table::check` meets its contract. What the two searches found is the answer of 11 and 12.
use mathlib.Core.Path.{sym, ◌∙◌}
use Rattle.expression.proofs.Answers.{check_11, check_12, check_passed}
use Rattle.expression.proofs.nodes.Table.check.Goals as goal

pub returns-in-Some : goal.returns-in-Some
returns-in-Some c = check_11 _ c.args.self.now.sized _ c.in-Some.ensures.0 c.in-Some.ensures.1

pub returns-in-Some-lowest_misused : goal.returns-in-Some-lowest_misused
returns-in-Some-lowest_misused c =
    check_12 _ c.args.self.now.sized c.in_default.ensures _ c.count_uses-uses.ensures _
    (sym (rw c.node_count.ensures at c.lowest_misused.ensures) ∙ c.in-Some-lowest_misused.is)

pub returns : goal.returns
returns c =
    check_passed _ c.args.self.now.sized c.in_default.ensures _ c.count_uses-uses.ensures
    (sym (rw c.node_count.ensures at c.lowest_misused.ensures) ∙ c.in_default-lowest_misused.is)
