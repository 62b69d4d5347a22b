use mathlib.Core.Path.{refl, sym, ◌∙◌}
use mathlib.Core.Bool.{true≢false}
use native.Mathlib.Omega.{arith}
use Rattle.std.proofs.Common.{rules}
use Rattle.chart.proofs.Rows.{looked_up, row_within, row_action, row_to}
use Rattle.chart.proofs.Lowest.{looking_none, looking_more, looking_stops, looking_least, row_lowest}
use Rattle.chart.proofs.Chart.lowest_from.Goals as goal

pub loop-row-init : goal.loop-row-init
loop-row-init c = looking_none c.rows-row-items.ensures.row

pub returns-then-contains : goal.returns-then-contains
returns-then-contains c =
    let s = c.args.self.now in
    let R = c.rows-row-items.ensures in
    let h = c.loop-row-test.true in
    row_lowest (looked_up _ _ s.bytes s.passed refl)
    (looking_least c.loop-row.invariant (row_within R h) (row_action R h) (row_to R h) (c.contains.ensures.0 c.if-contains.true) (search rules))

pub loop-row-preserved : goal.loop-row-preserved
loop-row-preserved c =
    let R = c.rows-row-items.ensures in
    looking_more c.loop-row.invariant (row_to R c.loop-row-test.true)
    (λ h. true≢false (sym (c.contains.ensures.1 h) ∙ c.if-contains.false))

pub returns : goal.returns
returns c =
    let s = c.args.self.now in
    let R = c.rows-row-items.ensures in
    row_lowest (looked_up _ _ s.bytes s.passed refl)
    (looking_stops c.loop-row.invariant (λ h. absurd (omega (arith, h, R.many, c.loop-row-test.false))))
