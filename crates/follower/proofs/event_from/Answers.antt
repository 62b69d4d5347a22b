use native.Mathlib.Omega.{arith}
use Rattle.bits.specs.Bits.{Bytes}
use Rattle.chart.proofs.Checks.{well_formed}
use Rattle.follower.proofs.Finds.{event_stays, event_spoils, event_goes}
use Rattle.follower.proofs.event_from.Goals as goal

pub returns-then-mark-eq1 : goal.returns-then-mark-eq1
returns-then-mark-eq1 c =
    let B : Bytes c.args.chart.now = λ i. omega (arith, c.type_inv.chart i) in
    event_stays _ (well_formed _ c.requires.0) B c.args.follower _ c.requires.1 c.requires.2 c.if-mark-eq1.true

pub returns-in-Some : goal.returns-in-Some
returns-in-Some c =
    let s = c.new-chart.result in
    let e = c.new-chart.ensures in
    rw (← e) (event_goes _ (well_formed _ s.passed) s.bytes c.args.follower _ c.requires.1 (rw (← e) at c.requires.2) c.if-mark-eq1.false
    c.in-Some.ensures c.taken.ensures)

pub returns-in-None : goal.returns-in-None
returns-in-None c =
    let s = c.new-chart.result in
    let e = c.new-chart.ensures in
    rw (← e) (event_spoils _ (well_formed _ s.passed) s.bytes c.args.follower _ c.requires.1 (rw (← e) at c.requires.2) c.if-mark-eq1.false
    c.in-None.ensures c.show-end.ensures)
