use native.Mathlib.Omega.{arith}
use Rattle.chart.proofs.Checks.{well_formed}
use Rattle.follower.proofs.Finds.{restart_goes, only_start}
use Rattle.follower.proofs.restart_on.Goals as goal

pub with-requires : goal.with-requires
with-requires c =
    let W = well_formed _ c.new-chart.result.passed in
    omega (arith, c.start.ensures.2, W.header.vertices_high)

pub returns : goal.returns
returns c =
    let s = c.new-chart.result in
    rw (← c.new-chart.ensures) (restart_goes _ (well_formed _ s.passed) s.bytes
    (only_start s.body.now c.empty.ensures c.start.ensures.0 c.with.ensures) c.taken.ensures)
