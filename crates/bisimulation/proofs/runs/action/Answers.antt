use native.Mathlib.Omega.{arith}
use Rattle.chart.proofs.Checks.{well_formed}
use Rattle.bisimulation.proofs.runs.action.Goals as goal

pub byte-requires : goal.byte-requires
byte-requires c = let h = (well_formed _ c.args.chart.now.passed).header.whole in omega (arith, h, c.requires)
