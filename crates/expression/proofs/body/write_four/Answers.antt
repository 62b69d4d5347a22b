-- `expression::body::write_four` meets its contract. The four stores in turn.
use Rattle.expression.proofs.Stores.{stores_four}
use Rattle.expression.proofs.body.write_four.Goals as goal

pub returns : goal.returns
returns c = stores_four _ _ _ _ _ _
