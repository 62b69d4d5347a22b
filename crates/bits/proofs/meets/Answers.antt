use Rattle.bits.proofs.Words.{meet}
use Rattle.bits.proofs.meets.Goals as goal

pub returns : goal.returns
returns c = meet _ _ c.bit_and.result c.ranges.x.fits c.bit_and.ensures
