use mathlib.Core.Path.{refl}
use Rattle.chart.proofs.Rows.{leaving_acts, rows_rise}
use Rattle.chart.proofs.Targets.{acting_none, acting_low, acting_more, acting_stops, acting_all}
use Rattle.chart.proofs.Chart.acting.Goals as goal

pub skip_lower-lower-requires : goal.skip_lower-lower-requires
skip_lower-lower-requires c = rows_rise c.rows-rows.ensures

pub loop-row-init : goal.loop-row-init
loop-row-init c = acting_none c.rows-rows.ensures c.skip_lower-lower.ensures c.empty-set.ensures

pub returns-then-acting-action : goal.returns-then-acting-action
returns-then-acting-action c =
    let s = c.args.self.now in
    leaving_acts _ _ s.bytes s.passed refl
    (acting_stops c.rows-rows.ensures c.args.action _ c.loop-row-test.true c.if-acting-action.true c.loop-row.invariant)

pub with_if-set-requires : goal.with_if-set-requires
with_if-set-requires c = acting_low c.rows-rows.ensures c.args.action _ c.loop-row-test.true

pub loop-row-preserved : goal.loop-row-preserved
loop-row-preserved c =
    acting_more c.rows-rows.ensures c.args.action _ c.loop-row-test.true c.with_if-set.ensures c.loop-row.invariant

pub returns : goal.returns
returns c =
    let s = c.args.self.now in
    leaving_acts _ _ s.bytes s.passed refl
    (acting_all c.rows-rows.ensures c.args.action _ c.loop-row-test.false c.loop-row.invariant)
