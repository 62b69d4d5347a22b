use mathlib.Core.Path.{refl}
use native.Mathlib.Omega.{arith}
use Rattle.witness.proofs.Collecting.{room_by}
use Rattle.witness.proofs.check.Goals as goal

pub check_in-requires : goal.check_in-requires
check_in-requires c =
    let l = c.in_ok-labelling in (
      rw l.ensures.ok.1 c.highest_byte-top.ensures.1,
      room_by {size = 16} {levels = 16} refl refl (rw l.ensures.ok.0 (omega (arith, c.vertices.ensures.0, c.if-vertices-le16.true)))
          c.if-top-lt16.true,
    )

pub check_large-requires : goal.check_large-requires
check_large-requires c = rw c.in_ok-labelling.ensures.ok.1 c.highest_byte-top.ensures.1
