use Rattle.bits.proofs.Counts.{count_word, count_few}
use Rattle.bits.proofs.count_bits.Goals as goal

pub returns : goal.returns
returns c = (count_word c.args.x c.ranges.x.fits, count_few c.args.x c.ranges.x.fits)
