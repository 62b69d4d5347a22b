use Rattle.bits.proofs.Words.{highest_law}
use Rattle.bits.proofs.highest_bit.Goals as goal

pub returns : goal.returns
returns c = (highest_law c.args.x c.requires c.ranges.x.fits).1
