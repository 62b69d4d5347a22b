use mathlib.Core.Path.{refl}
use Rattle.bits.specs.Tables.{put_row}
use Rattle.bits.proofs.tables.put_row.Goals as goal

pub returns : goal.returns
unfolding put_row
returns c = refl
