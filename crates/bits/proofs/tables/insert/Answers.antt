use Rattle.bits.proofs.Gains.{inserted}
use Rattle.bits.proofs.tables.insert.Goals as goal

pub returns : goal.returns
returns c = inserted c.args.table.now c.args.v c.args.w c.with_bit.result c.requires.0 c.requires.1 c.with_bit.ensures
