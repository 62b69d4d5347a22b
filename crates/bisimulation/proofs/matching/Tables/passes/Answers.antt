use native.Mathlib.Omega.{arith}
use mathlib.Core.Path.{◌≡◌}
use Prim.Native.Nat.{◌+◌}
use borrow.Author.Tests.{eqb-true}
use Rattle.chart.proofs.Order.{begin_high}
use Rattle.bisimulation.proofs.SuspectLaws.{meet_none, meet_more, meet_all, meet_nothing}
use Rattle.bisimulation.proofs.matching.Tables.passes.Goals as goal

pub returns-then-a-b : goal.returns-then-a-b
returns-then-a-b c = λ h. meet_nothing _ c.if-a-b.true (eqb-true _ _ h)

pub loop-i-init : goal.loop-i-init
loop-i-init c = (omega arith, omega (arith, c.if-a-b.false), meet_none _)

pub matching-x-requires : goal.matching-x-requires
matching-x-requires c = omega (arith, begin_high c.args.self.now.chart.now.begun _ c.requires, c.loop-i.invariant.0, c.loop-i.invariant.1, c.loop-i-test.true)

pub matching-y-requires : goal.matching-y-requires
matching-y-requires c = omega (arith, begin_high c.args.self.now.chart.now.begun _ c.requires, c.loop-i.invariant.0, c.loop-i-test.true)

pub matching-x-requires-then-i-b : goal.matching-x-requires-then-i-b
matching-x-requires-then-i-b c = omega (arith, begin_high c.args.self.now.chart.now.begun _ c.requires, c.if-i-b.true)

pub loop-i-preserved : goal.loop-i-preserved
loop-i-preserved c =
    let i = c.loop-i.invariant in
    let x = c.matching-x in
    let y = c.matching-y in
    let f = c.meets.ensures.0 c.if-not-meets.false in
    let g = c.meets-in-loop-i.ensures.0 c.if-not-meets-2.false in
    let S = meet_more i.2 x.result c.bit_or.result (λ k on. (x.ensures k).0 on) f c.bit_or.ensures in
    let e : c.loop-i.i + 1 + 1 ≡ c.loop-i.i + 2 = omega arith in (
      i.0,
      omega (arith, i.0, c.loop-i-test.true),
      rw e at (meet_more S y.result c.bit_or-matched.result (λ k on. (y.ensures k).0 on) g c.bit_or-matched.ensures),
    )

pub returns-then-i-b : goal.returns-then-i-b
returns-then-i-b c =
    λ h.
    let i = c.loop-i.invariant in
    let S = meet_more i.2 c.matching-x-then-i-b.result c.bit_or-then-i-b.result (λ k on. (c.matching-x-then-i-b.ensures k).0 on)
    (c.meets-then-i-b.ensures.0 c.if-not-meets-3.false) c.bit_or-then-i-b.ensures in
    meet_all S _ c.bit_and_not.result (omega (arith, i.0, c.loop-i-test.false))
    (omega (arith, c.if-i-b.true)) c.bit_and_not.ensures (eqb-true _ _ h)

pub returns : goal.returns
returns c =
    λ h. let i = c.loop-i.invariant in
    meet_all i.2 _ c.bit_and_not-2.result c.if-i-b.false i.1 c.bit_and_not-2.ensures (eqb-true _ _ h)
