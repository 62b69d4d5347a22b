use Rattle.bits.proofs.Words.{but_on}
use Rattle.bits.proofs.bit_and_not.Goals as goal

pub returns : goal.returns
returns c = λ j. but_on c.args.x c.args.y j c.ranges.x.fits c.ranges.y.fits
