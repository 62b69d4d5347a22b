use mathlib.Core.Path.{sym, subst}
use mathlib.Core.List.{List}
use Prim.Native.Nat.{ℕ}
use native.Mathlib.Omega.{arith}
use Rattle.chart.proofs.Order.{BeginsBelow, begins_none, begins_more, begins_all}
use Rattle.chart.proofs.Checks.{well_formed}
use Rattle.chart.proofs.fill_begins.Goals as goal

pub count-n-requires : goal.count-n-requires
count-n-requires c = (well_formed _ c.requires).header.long

pub byte-v-end-requires : goal.byte-v-end-requires
byte-v-end-requires c = omega (arith, (well_formed _ c.requires).header.long)

pub loop-v-init : goal.loop-v-init
loop-v-init c =
    subst (λ (r : List ℕ). BeginsBelow c.args.body.now c.count-n.result r 0 0) (sym (c.fill.ensures.after (λ y e. e)))
    (rw c.told-begins (begins_none c.args.body.now c.count-n.result))

pub past-at-requires : goal.past-at-requires
past-at-requires c =
    let i = c.loop-v.invariant in
    record { passed = c.requires; many = c.count-n.ensures.0; within = i.within; below = i.passed }

pub bounds-begins-v : goal.bounds-begins-v
bounds-begins-v c =
    omega (arith, c.loop-v-test.true, (well_formed _ c.requires).header.vertices_high, c.byte-v-end.ensures.0)

pub loop-v-preserved : goal.loop-v-preserved
loop-v-preserved c =
    let high = (well_formed _ c.requires).header.vertices_high in
    begins_more c.loop-v.invariant (omega (arith, c.loop-v-test.true, high, c.byte-v-end.ensures.0)) c.past-at.ensures

pub returns : goal.returns
returns c =
    let W = well_formed _ c.requires in
    begins_all W c.count-n.ensures.0 c.loop-v.invariant (omega (arith, c.byte-v-end.ensures.0, c.loop-v-test.false))
