-- `expression::body::write_transition` meets its contract. A key is taken apart into two of the four bytes.
use Rattle.expression.proofs.Stores.{transition_stored}
use Rattle.expression.proofs.body.write_transition.Goals as goal

pub returns : goal.returns
returns c = transition_stored _ _ _ _ _ _ c.write_four.ensures
