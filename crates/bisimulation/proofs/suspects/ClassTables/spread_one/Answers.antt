use Rattle.bisimulation.proofs.RowLaws.{has_related}
use Rattle.bisimulation.proofs.SuspectLaws.{spread_skip, spread_more}
use Rattle.bisimulation.proofs.suspects.ClassTables.spread_one.Goals as goal

pub returns-then-self-c : goal.returns-then-self-c
returns-then-self-c c =
    (spread_skip c.requires.1 c.if-self-c.true, λ w t. absurd (c.if-self-c.true t.0))

pub returns : goal.returns
returns c =
    let S = c.spread.ensures in (
      spread_more c.requires.1 c.if-self-c.false c.row-row.ensures S.0 S.1 S.2,
      λ w t. (has_related _ _ c.row-row.ensures w).1 t.1,
    )
