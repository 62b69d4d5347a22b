use native.Mathlib.Omega.{arith}
use borrow.Author.Tests.{eqb-true}
use Rattle.chart.proofs.Order.{begin_order, begin_high}
use Rattle.bisimulation.proofs.SuspectLaws.{meet_none, meet_more, meet_all}
use Rattle.bisimulation.proofs.steps.Steps.word_passes.Goals as goal

pub loop-i-init : goal.loop-i-init
loop-i-init c = meet_none _

pub fitting-x-requires : goal.fitting-x-requires
fitting-x-requires c = (c.requires.0, omega (arith, begin_high c.args.chart.now.begun _ c.requires.1, c.loop-i-test.true))

pub loop-i-preserved : goal.loop-i-preserved
loop-i-preserved c =
    let x = c.fitting-x in
    meet_more c.loop-i.invariant x.result c.bit_or-matched.result x.ensures
    (c.meets.ensures.0 c.if-not-meets.false) c.bit_or-matched.ensures

pub returns : goal.returns
returns c =
    λ h. meet_all c.loop-i.invariant _ c.bit_and_not.result c.loop-i-test.false (omega (arith, begin_order c.args.chart.now.begun _ c.requires.1, c.loop-i.auto.i-end)) c.bit_and_not.ensures (eqb-true _ _ h)
