use mathlib.Core.Path.{refl, sym}
use native.Mathlib.Omega.{arith}
use Rattle.chart.proofs.Rows.{enters_none, every_more, enters_all, leaving_leads, row_within, row_to, row_low}
use Rattle.chart.proofs.Chart.targets.Goals as goal

pub loop-row-init : goal.loop-row-init
loop-row-init c = enters_none c.empty-set.ensures

pub with-set-requires : goal.with-set-requires
with-set-requires c = row_low c.rows-row-items.ensures c.loop-row-test.true

pub loop-row-preserved : goal.loop-row-preserved
loop-row-preserved c =
    let R = c.rows-row-items.ensures in
    let h = c.loop-row-test.true in
    every_more (row_within R h) (sym (row_to R h)) c.with-set.ensures c.loop-row.invariant

pub returns : goal.returns
returns c =
    let s = c.args.self.now in
    leaving_leads _ _ s.bytes s.passed refl
    (enters_all (omega (arith, c.rows-row-items.ensures.many, c.loop-row-test.false)) c.loop-row.invariant)
