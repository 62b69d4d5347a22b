use native.Mathlib.Omega.{arith}
use Rattle.extraction.proofs.NodeLaws.{added_first, added_later}
use Rattle.extraction.proofs.texts.Nodes.put_sum.Goals as goal

pub returns-then-count-item : goal.returns-then-count-item
returns-then-count-item c = added_first c.if-count-item.true

pub returns : goal.returns
returns c =
    let p = c.requires in
    added_later (omega (arith, p.0, c.if-count-item.false)) c.put.ensures p.1
