-- `expression::tree::Tree::new` meets its contract. What passes the checks is well formed.
use Rattle.expression.proofs.Table.{passed→well_formed}
use Rattle.expression.proofs.tree.Tree.new.Goals as goal

pub invariant_of-result : goal.invariant_of-result
invariant_of-result c = record { formed = passed→well_formed _ c.requires }
