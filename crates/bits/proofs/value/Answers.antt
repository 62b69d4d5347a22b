use Rattle.std.proofs.Common.{◌∙◌}
use Rattle.bits.proofs.Powers.{powers, power_at}
use Rattle.bits.proofs.value.Goals as goal

-- the table's rule: computed, it is the first eight powers of two
pub returns : goal.returns
unfolding powers
returns c = c.from.ensures ∙ power_at 8 c.args.i c.requires
