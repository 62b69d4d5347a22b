use Rattle.bits.proofs.Words.{lowest_law}
use Rattle.bits.proofs.lowest_bit.Goals as goal

pub returns : goal.returns
returns c = lowest_law c.args.x c.requires c.ranges.x.fits
