use Rattle.bits.proofs.Gains.{has_row}
use Rattle.bits.proofs.tables.in_row.Goals as goal

pub returns : goal.returns
returns c = let R = has_row c.args.table.now c.args.v c.args.w c.requires.1 in ((λ e. R.1 (c.is_set.ensures.0 e)), (λ h. c.is_set.ensures.1 (R.0 h)))
