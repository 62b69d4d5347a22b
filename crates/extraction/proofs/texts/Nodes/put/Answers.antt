use borrow.Author.Rules.{rules}
use Rattle.extraction.proofs.NodeLaws.{put_four}
use Rattle.extraction.proofs.texts.Nodes.put.Goals as goal

pub returns : goal.returns
returns c = rw c.from.ensures (put_four _ _ _ _ _ _ (search rules) (search rules))
