use Rattle.bisimulation.proofs.RowLaws.{related_on}
use Rattle.bisimulation.proofs.rows.Relation.related.Goals as goal

pub returns : goal.returns
returns c =
    let R = related_on _ _ _ c.requires.1 in
    ((λ h. R.1 (c.has_bit.ensures.0 h)), (λ r. c.has_bit.ensures.1 (R.0 r)))
