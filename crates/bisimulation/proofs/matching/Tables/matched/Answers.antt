use native.Mathlib.Omega.{arith}
use mathlib.Core.Path.{◌≡◌}
use Prim.Native.Nat.{◌+◌}
use lib.ListN.{get_or}
use Rattle.chart.proofs.Order.{begin_order, begin_high}
use Rattle.bisimulation.proofs.PairLaws.{matched_none, matched_more}
use Rattle.bisimulation.proofs.matching.Tables.matched.Goals as goal

pub loop-i-init : goal.loop-i-init
loop-i-init c =
    let s = c.args.self.now in
    let k = s.chart.now in matched_none s.at.now.into s.acting.now k.body.now (get_or k.begins.now c.args.v 0)

pub matching-requires : goal.matching-requires
matching-requires c = omega (arith, begin_high c.args.self.now.chart.now.begun _ c.requires, c.loop-i-test.true)

pub loop-i-preserved : goal.loop-i-preserved
loop-i-preserved c =
    let l = c.loop-i in
    let s = c.args.self.now in
    let k = s.chart.now in
    matched_more s.at.now.into s.acting.now k.body.now (get_or k.begins.now c.args.v 0) l.i l.steps c.matching.result c.bit_or-steps.result l.auto.i l.invariant c.matching.ensures c.bit_or-steps.ensures

pub returns : goal.returns
returns c =
    let k = c.args.self.now.chart.now in
    let o = begin_order k.begun _ c.requires in
    let e : c.loop-i.i ≡ get_or k.begins.now (c.args.v + 1) 0 = omega (arith, o, c.loop-i.auto.i-end, c.loop-i-test.false) in rw e at c.loop-i.invariant
