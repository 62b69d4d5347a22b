use Rattle.extraction.proofs.NodeLaws.{timed_alone, timed_text}
use Rattle.extraction.proofs.texts.Nodes.put_product.Goals as goal

pub returns-then-leaf-next : goal.returns-then-leaf-next
returns-then-leaf-next c = timed_alone c.if-leaf-next.true

pub returns : goal.returns
returns c =
    let p = c.requires in timed_text p.0 c.if-leaf-next.false c.put.ensures
