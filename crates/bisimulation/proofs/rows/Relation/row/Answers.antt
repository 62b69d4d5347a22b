use Rattle.bisimulation.proofs.RowLaws.{row_members}
use Rattle.bisimulation.proofs.rows.Relation.row.Goals as goal

pub returns : goal.returns
returns c = row_members _ _ c.read_set.ensures
