use Rattle.bits.proofs.Gains.{gains_put}
use Rattle.bits.proofs.tables.join.Goals as goal

pub returns : goal.returns
returns c = rw c.put_row.ensures (gains_put _ _ c.args.set _ c.requires (rw c.row.ensures at c.union-all.ensures))
