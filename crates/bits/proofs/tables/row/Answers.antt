use mathlib.Core.Path.{refl}
use Rattle.bits.specs.Tables.{row_of}
use Rattle.bits.proofs.tables.row.Goals as goal

pub returns : goal.returns
unfolding row_of
returns c = refl
