use Rattle.bits.proofs.Words.{shifted}
use Rattle.bits.proofs.shift_right.Goals as goal

pub returns : goal.returns
returns c = shifted c.args.x c.args.k
