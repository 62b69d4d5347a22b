use mathlib.Core.Path.{refl}
use native.Mathlib.Omega.{arith}
use Rattle.chart.proofs.Rows.{looked_up, row_within, row_action}
use Rattle.chart.proofs.Targets.{marks_none, marks_more, marks_all, row_marks}
use Rattle.chart.proofs.Chart.mark.Goals as goal

pub loop-row-init : goal.loop-row-init
loop-row-init c = marks_none

pub bounds-marks-row : goal.bounds-marks-row
bounds-marks-row c = c.rows-row-items.ensures.byte _ 1 c.loop-row-test.true (omega arith)

pub loop-row-preserved : goal.loop-row-preserved
loop-row-preserved c =
    let R = c.rows-row-items.ensures in
    let h = c.loop-row-test.true in
    marks_more c.requires.1 (row_within R h) (row_action R h) (R.byte _ 1 h (omega arith)) c.loop-row.invariant

pub returns : goal.returns
returns c =
    let s = c.args.self.now in
    row_marks (looked_up _ _ s.bytes s.passed refl)
    (marks_all (omega (arith, c.rows-row-items.ensures.many, c.loop-row-test.false)) c.loop-row.invariant)
