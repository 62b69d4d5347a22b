use Rattle.expression.proofs.Aims.{Aimed}
use Rattle.expression.proofs.targets.find_targets.Given as goal

-- `expression::targets::find_targets` meets its contract. The invariant: the array has the targets of the root and of the operands of node k and those above it.
abbrev pub invariant-loop-k : goal.invariant-loop-k
invariant-loop-k l = Aimed l.tree.nodes.now l.k l.targets
