use native.Mathlib.Omega.{arith}
use Rattle.chart.proofs.Checks.{well_formed}
use Rattle.chart.proofs.Chart.vertices.Goals as goal

pub byte-requires : goal.byte-requires
byte-requires c = omega (arith, (well_formed _ c.args.self.now.passed).header.long)

pub returns : goal.returns
returns c =
    let h = (well_formed _ c.args.self.now.passed).header in
    let e = c.byte.ensures.0 in
    (e, rw e h.vertices_low, rw e h.vertices_high)
