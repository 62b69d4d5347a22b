-- `expression::nodes::Table::kind` meets its contract. The byte of a well-formed node stands for a kind.
use Rattle.expression.proofs.KindBytes.{stands}
use Rattle.expression.proofs.View.{kind_le}
use Rattle.expression.proofs.nodes.Table.kind.Goals as goal

pub returns : goal.returns
returns c = rw c.unwrap_or.ensures (stands _ (kind_le _ _ c.requires.good) _ _ c.try_from.ensures)
