use Rattle.elimination.proofs.Walking.{row_members}
use Rattle.elimination.proofs.walk.Rows.row.Goals as goal

pub returns : goal.returns
returns c = rw c.row.ensures (row_members c.args.self.now.rows c.requires)
