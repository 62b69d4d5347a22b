use Rattle.expression.specs.Uses.{Tallied}
use Rattle.expression.proofs.nodes.Table.count_uses.Given as goal

-- `expression::nodes::Table::count_uses` meets its contract. The invariant: the array has the uses that the nodes below k make.
abbrev pub invariant-loop-k : goal.invariant-loop-k
invariant-loop-k l = Tallied l.self.nodes.now l.k l.uses
