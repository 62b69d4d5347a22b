use native.Mathlib.Omega.{arith}
use Rattle.chart.proofs.Checks.{well_formed}
use Rattle.bisimulation.proofs.runs.target.Goals as goal

pub byte-requires : goal.byte-requires
byte-requires c = let h = (well_formed _ c.args.chart.now.passed).header.whole in omega (arith, h, c.requires)

pub returns : goal.returns
returns c =
    let W = well_formed _ c.args.chart.now.passed in
    (c.byte.ensures.0, omega (arith, c.byte.ensures.0, (W.each c.args.i c.requires).to_high, W.header.vertices_high))
