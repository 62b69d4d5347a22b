-- `expression::body::write_body` meets its contract. The head, then the transitions.
use Rattle.expression.proofs.Stores.{body_stored}
use Rattle.expression.proofs.body.write_body.Goals as goal

pub returns : goal.returns
returns c = body_stored _ _ _ _ _ _ c.write_four.ensures c.write_transitions.ensures
