-- `expression::words::RankedTree::fill_words` and `fill_joined` meet their contracts. A leaf's word is the only one below it; another
-- node's is made of those of its operands. The measure is the node's number: operands are lower.
use native.Mathlib.Omega.{arith}
use Rattle.expression.proofs.KindBytes.{without_operands}
use Rattle.expression.proofs.WordLaws.{filled_leaf, filled_both}
use Rattle.expression.proofs.words.RankedTree.+fill_words.Goals as goal

pub fill_joined-returns : goal.fill_joined-returns
fill_joined-returns t c =
    let p = c.requires in
    filled_both _ c.args.self.now.tree.formed _ p.0 _ _ p.2 _ _ _ _ _ _ _ p.1 c.left.ensures.0 c.right.ensures.0
    c.fill_words-left.ensures c.fill_words-right.ensures (rw c.kind-kind.ensures at c.joined_word-word.ensures)

pub fill_words-returns : goal.fill_words-returns
fill_words-returns t c =
    let p = c.requires in
    let m = without_operands c.has_operands.ensures c.if-has_operands.false in
    filled_leaf _ c.args.self.now.tree.formed _ p.0 _ _ p.1 _ (omega (arith, c.kind.ensures)) c.leaf_word-word.ensures
