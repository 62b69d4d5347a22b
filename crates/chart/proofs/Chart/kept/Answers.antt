use mathlib.Core.Path.{refl, sym}
use native.Mathlib.Omega.{arith}
use Rattle.chart.proofs.Rows.{enters_none, enters_more, enters_all, decides_at, row_within, row_to, row_low}
use Rattle.chart.proofs.Rows.{looked_up, beside_long, beside_at}
use Rattle.chart.proofs.Chart.kept.Goals as goal

pub loop-i-init : goal.loop-i-init
loop-i-init c = enters_none c.empty-set.ensures

pub bounds-beside-i : goal.bounds-beside-i
bounds-beside-i c =
    let s = c.args.self.now in
    let R = c.rows-row-items.ensures in
    let n = beside_long (looked_up _ _ s.bytes s.passed refl) c.range-range.ensures.stands _ c.requires.0 in
    omega (arith, n, row_within R c.loop-i-test.true)

pub with_if-set-requires : goal.with_if-set-requires
with_if-set-requires c = row_low c.rows-row-items.ensures c.loop-i-test.true

pub loop-i-preserved : goal.loop-i-preserved
loop-i-preserved c =
    let R = c.rows-row-items.ensures in
    let h = c.loop-i-test.true in
    enters_more (row_within R h) (sym (row_to R h)) (decides_at 1 refl) c.with_if-set.ensures c.loop-i.invariant

pub returns : goal.returns
returns c =
    let s = c.args.self.now in
    let M = enters_all (omega (arith, c.rows-row-items.ensures.many, c.loop-i-test.false)) c.loop-i.invariant in
    beside_at (looked_up _ _ s.bytes s.passed refl) c.range-range.ensures.stands M
