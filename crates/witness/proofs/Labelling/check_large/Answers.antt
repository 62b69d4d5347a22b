use mathlib.Core.Path.{refl}
use Rattle.chart.proofs.Checks.{well_formed}
use Rattle.witness.proofs.Collecting.{room_by, top_below}
use Rattle.witness.proofs.Labelling.check_large.Goals as goal

pub check_in-requires : goal.check_in-requires
check_in-requires c =
    let s = c.args.self.now in (
      c.requires,
      room_by {size = 128} {levels = 256} refl refl (well_formed _ s.chart.now.passed).header.vertices_high
          (top_below s.bytes c.requires),
    )
