use native.Mathlib.Omega.{arith}
use mathlib.Core.Path.{◌≡◌}
use Prim.Native.Nat.{◌<◌}
use Rattle.bisimulation.proofs.ClassLaws.{classes_first, heads_first, classes_more, heads_more}
use Rattle.bisimulation.proofs.rows.Relation.classes.Goals as goal

pub loop-u-init : goal.loop-u-init
loop-u-init c = (classes_first _, heads_first (classes_first c.args.self.now.bytes.now))

pub loop-u-preserved : goal.loop-u-preserved
loop-u-preserved c =
    let i = c.loop-u.invariant in
    let u : c.loop-u.u < 128 = omega (arith, c.args.self.now.few, c.loop-u-test.true) in
    let w : c.lowest-w.result < 129 = omega (arith, c.lowest-w.ensures.within) in
    let D = c.class_of-c.ensures.1 in
    (classes_more i.0 i.1 u w D, heads_more i.0 i.1 u w D)

pub returns : goal.returns
returns c =
    let e : c.loop-u.u ≡ c.args.self.now.rows = omega (arith, c.loop-u.auto.u-end, c.requires, c.loop-u-test.false) in
    rw e at c.loop-u.invariant.0
