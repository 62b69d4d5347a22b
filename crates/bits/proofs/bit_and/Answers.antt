use Rattle.bits.proofs.Words.{both_on}
use Rattle.bits.proofs.bit_and.Goals as goal

pub returns : goal.returns
returns c = both_on c.args.x c.args.y
