use native.Mathlib.Omega.{arith}
use borrow.Author.Tests.{eqb-true}
use Rattle.chart.proofs.Order.{begin_order, begin_high}
use Rattle.bisimulation.proofs.RunLaws.{one_source, source_from, same_match}
use Rattle.bisimulation.proofs.SuspectLaws.{meet_none, meet_run, meet_all}
use Rattle.bisimulation.proofs.matching.Tables.passes_by_runs.Goals as goal

pub loop-i-init : goal.loop-i-init
loop-i-init c = (begin_order c.args.self.now.chart.now.begun _ c.requires, meet_none _)

pub matching-x-requires : goal.matching-x-requires
matching-x-requires c = omega (arith, begin_high c.args.self.now.chart.now.begun _ c.requires, c.loop-i-test.true)

pub past_alike-i-requires : goal.past_alike-i-requires
past_alike-i-requires c =
    let B = c.args.self.now.chart.now.begun in (c.loop-i-test.true, begin_high B _ c.requires, source_from (one_source B _ c.requires) c.loop-i.invariant.1.from)

pub loop-i-preserved : goal.loop-i-preserved
loop-i-preserved c =
    let s = c.args.self.now in
    let E = c.past_alike-i.ensures in
    let x = c.matching-x in (
      E.within,
      meet_run c.loop-i.invariant.1 x.result c.bit_or-matched.result c.past_alike-i.result (λ k on. (x.ensures k).0 on)
          (c.meets.ensures.0 c.if-not-meets.false) c.bit_or-matched.ensures E.some
          (λ j k l h. same_match s.acting.now k (E.each j l h)),
    )

pub returns : goal.returns
returns c =
    λ h. let i = c.loop-i.invariant in
    meet_all i.1 _ c.bit_and_not.result c.loop-i-test.false i.0 c.bit_and_not.ensures (eqb-true _ _ h)
