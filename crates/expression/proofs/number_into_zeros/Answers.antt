-- `expression::number_into_zeros` meets its contract. The keys, their ranks and the words are those of the law.
use native.Mathlib.Omega.{arith}
use Rattle.expression.proofs.Numbers.{leaf_ranks, ranked_leaves, numbered}
use Rattle.expression.proofs.number_into_zeros.Goals as goal

pub invariant_of-ranked : goal.invariant_of-ranked
invariant_of-ranked c =
    let w = c.new-tree.result.formed in
    record { ranked = leaf_ranks _ w _ _ _ (ranked_leaves _ w _ _ _ c.collect_keys-m.ensures c.fill_ranks.ensures) }

pub returns : goal.returns
returns c =
    let e = c.new-tree.ensures in
    let bytes = c.type_inv.nodes in
    numbered _ (rw e at c.new-tree.result.formed) _ _ _ (rw e at c.collect_keys-m.ensures) (rw e at c.fill_ranks.ensures) _ (rw e at c.first_words.ensures)
    (λ i. omega (arith, bytes i))
