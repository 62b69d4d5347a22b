use Rattle.bits.proofs.Words.{either_on}
use Rattle.bits.proofs.bit_or.Goals as goal

pub returns : goal.returns
returns c = either_on c.args.x c.args.y
