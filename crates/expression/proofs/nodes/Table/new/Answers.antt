-- `expression::nodes::Table::new` meets its contract. 10.
use mathlib.Core.Path.{sym, ◌∙◌}
use Rattle.expression.proofs.Answers.{check_10}
use Rattle.expression.proofs.Table.{sizes}
use Rattle.expression.proofs.nodes.Table.new.Goals as goal

pub returns-then-not-length_ok : goal.returns-then-not-length_ok
returns-then-not-length_ok c = check_10 _ (sym c.length_ok.ensures ∙ c.if-not-length_ok.true)

pub invariant_of-result : goal.invariant_of-result
invariant_of-result c = record { sized = sizes _ (sym c.length_ok.ensures ∙ c.if-not-length_ok.false) }
