use native.Mathlib.Omega.{arith}
use mathlib.Core.Path.{◌≡◌}
use Rattle.chart.specs.Bodies.{vertices_of}
use Rattle.bisimulation.proofs.ClearLaws.{knows_none, gather_none, gather_more}
use Rattle.bisimulation.proofs.clearing.Clearing.gather.Goals as goal

pub loop-v-init : goal.loop-v-init
loop-v-init c = (knows_none _ c.empty.ensures, rw c.requires (gather_none _ _ _ _ _ _))

pub loop-v-preserved : goal.loop-v-preserved
loop-v-preserved c =
    let i = c.loop-v.invariant in
    let R = c.refusable-rows.ensures in
    (R.1, gather_more i.1 (omega (arith, c.vertices-n.ensures, c.loop-v-test.true)) c.row.ensures R.0 c.put_row.ensures)

pub returns : goal.returns
returns c =
    let i = c.loop-v in
    let e : i.v ≡ vertices_of c.args.self.now.tables.now.chart.now.body.now = omega
    (arith, c.vertices-n.ensures, i.auto.v-end, c.loop-v-test.false) in
    rw e at i.invariant.1
