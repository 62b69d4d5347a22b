use Rattle.expression.proofs.Trees.{Descent}
use Rattle.expression.proofs.targets.try_find_targets.Given as goal

-- `expression::targets::try_find_targets` meets its contract. The invariant: the nodes from k on have had their turn.
abbrev pub invariant-loop-k : goal.invariant-loop-k
invariant-loop-k l = Descent l.table.nodes.now l.k l.targets
