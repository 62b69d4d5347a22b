use Rattle.bits.proofs.Words.{lowest_from_none, lowest_from_some}
use Rattle.bits.proofs.lowest_bit_from.Goals as goal

pub returns-then-high-eq0 : goal.returns-then-high-eq0
returns-then-high-eq0 c = lowest_from_none c.args.x c.args.k c.shift_right-high.result c.requires c.shift_right-high.ensures c.if-high-eq0.true

pub returns : goal.returns
returns c = lowest_from_some c.args.x c.args.k c.shift_right-high.result c.lowest_bit.result c.ranges.x.fits c.shift_right-high.ensures c.lowest_bit.ensures
