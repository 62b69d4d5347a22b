use native.Mathlib.Omega.{arith}
use Rattle.chart.proofs.Checks.{well_formed}
use Rattle.witness.proofs.Reaching.{only_member, members_reached, lowest_unreached, none_missing}
use Rattle.witness.proofs.reached.unreached.Goals as goal

pub with-start-requires : goal.with-start-requires
with-start-requires c =
    let w = (well_formed _ c.args.chart.now.passed).header in
    omega (arith, w.vertices_high, c.start.ensures.2)

pub returns-then-w-eq128 : goal.returns-then-w-eq128
returns-then-w-eq128 c =
    let w = well_formed _ c.args.chart.now.passed in
    let vertices = rw c.vertices.ensures.0 at c.below.ensures in
    let start = only_member c.empty.ensures c.with-start.ensures in
    let here = rw c.start.ensures.0 at start in
    λ labels T.
    none_missing w (members_reached w T (omega (arith, w.header.start_high, w.header.vertices_high)) here c.closure.ensures)
    vertices c.with-reached.ensures c.difference.ensures c.lowest-w.ensures c.if-w-eq128.true

pub returns : goal.returns
returns c =
    let w = well_formed _ c.args.chart.now.passed in
    let vertices = rw c.vertices.ensures.0 at c.below.ensures in
    let start = only_member c.empty.ensures c.with-start.ensures in
    let here = rw c.start.ensures.0 at start in
    λ labels T.
    lowest_unreached w (members_reached w T (omega (arith, w.header.start_high, w.header.vertices_high)) here c.closure.ensures)
    vertices c.with-reached.ensures c.difference.ensures c.lowest-w.ensures c.if-w-eq128.false
