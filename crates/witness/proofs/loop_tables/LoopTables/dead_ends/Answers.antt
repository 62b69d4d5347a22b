use mathlib.Core.Path.{◌≡◌}
use native.Mathlib.Omega.{arith}
use Rattle.chart.proofs.Checks.{well_formed}
use Rattle.witness.proofs.Onward.{dead_ends_none, dead_ends_more}
use Rattle.witness.proofs.loop_tables.LoopTables.dead_ends.Goals as goal

pub loop-v-init : goal.loop-v-init
loop-v-init c = dead_ends_none _ c.empty-ends.ensures

pub with_if-ends-requires : goal.with_if-ends-requires
with_if-ends-requires c =
    let s = c.args.self.now in
    omega (arith, c.loop-v-test.true, s.all, (well_formed _ s.labelling.chart.now.passed).header.vertices_high)

pub loop-v-preserved : goal.loop-v-preserved
loop-v-preserved c = dead_ends_more _ _ c.loop-v.invariant c.row.ensures c.is_empty.ensures c.with_if-ends.ensures

pub returns : goal.returns
returns c =
    let e : c.loop-v.v ≡ c.args.self.now.branches.to = omega arith in
    rw e at c.loop-v.invariant
