use Rattle.bits.proofs.Words.{rest_law}
use Rattle.bits.proofs.without_lowest.Goals as goal

pub returns : goal.returns
returns c = rest_law c.args.x
