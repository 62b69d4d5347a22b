use Prim.Native.Nat.{◌-◌}
use mathlib.Core.Path.{◌≡◌}
use Rattle.expression.specs.Table.{lowest_failing, node_ok, malformed}
use Rattle.expression.proofs.nodes.Table.lowest_malformed.Given as goal

-- `expression::nodes::Table::lowest_malformed` meets its contract. The invariant: the lowest malformed node from k on is the lowest of all.
abbrev pub invariant-loop-k : goal.invariant-loop-k
invariant-loop-k l = lowest_failing (node_ok l.self.nodes.now) l.k (l.k-end - l.k) ≡ malformed l.self.nodes.now
