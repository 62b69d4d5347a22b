-- `expression::nodes::Table::node_count` meets its contract. Four bytes a node.
use mathlib.Core.Path.{refl}
use Rattle.expression.specs.Table.{count}
use Rattle.expression.proofs.nodes.Table.node_count.Goals as goal

pub returns : goal.returns
unfolding count
returns c = refl
