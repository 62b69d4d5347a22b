-- `expression::list_steps` meets its contract. The keys, the ranks among them and the words are those of the law.
use native.Mathlib.Omega.{arith}
use Rattle.expression.proofs.Numbers.{leaf_ranks, lists}
use Rattle.expression.proofs.list_steps.Goals as goal

pub invariant_of-ranked : goal.invariant_of-ranked
invariant_of-ranked c = record { ranked = leaf_ranks _ c.new-tree.result.formed _ _ _ c.list_leaves-m.ensures }

pub returns : goal.returns
returns c =
    let e = c.new-tree.ensures in
    let bytes = c.type_inv.nodes in
    lists _ (rw e at c.new-tree.result.formed) _ _ _ (rw e at c.list_leaves-m.ensures) _ (rw e at c.first_words.ensures)
    (λ i. omega (arith, bytes i))
