-- `expression::words::RankedTree::first_words` meets its contract. From no bits, at the root: every node is below it.
use Rattle.expression.proofs.WordLaws.{filled_all}
use Rattle.expression.proofs.words.RankedTree.first_words.Goals as goal

pub returns : goal.returns
returns c = filled_all _ c.args.self.now.tree.formed _ _ _ _ c.node_count.ensures (rw c.requires at c.fill_words.ensures)
