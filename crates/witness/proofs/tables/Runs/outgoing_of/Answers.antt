use mathlib.Core.Path.{◌≡◌}
use Prim.Native.Nat.{◌+◌}
use native.Mathlib.Nat.{le_refl}
use native.Mathlib.Omega.{arith}
use lib.ListN.{get_or}
use Rattle.bits.proofs.Gains.{gains_none}
use Rattle.chart.proofs.Order.{begin_order, begin_high}
use Rattle.witness.proofs.Runs.{gets_on}
use Rattle.witness.proofs.Collecting.{outgoing_none, outgoing_more, enters_more, outgoing_all}
use Rattle.witness.proofs.Seen.{seen_none, enters_all}
use Rattle.witness.proofs.tables.Runs.outgoing_of.Goals as goal

pub loop-i-init : goal.loop-i-init
loop-i-init c =
    let R = c.args.self.now.begun in
    let none = outgoing_none c.empty-branches.ensures c.empty-entries.ensures in
    (le_refl _, begin_order R _ c.requires.0, none, gains_none (λ x y (h, w, s). seen_none s))

pub take_branches-some-requires : goal.take_branches-some-requires
take_branches-some-requires c = (c.loop-i.invariant.1, begin_high c.args.self.now.begun _ c.requires.0)

pub take_entries-more-requires : goal.take_entries-more-requires
take_entries-more-requires c =
    let p = c.requires in (
      c.take_branches-some.ensures.0.to,
      begin_high c.args.self.now.begun _ p.0,
      p.0,
      λ j h. omega (arith, p.1 j h, c.loop-i.invariant.3.long),
    )

pub loop-i-smaller : goal.loop-i-smaller
loop-i-smaller c =
    let T = c.take_branches-some.ensures in
    let U = c.take_entries-more.ensures in
    omega (arith, gets_on c.args.self.now.labels.now c.loop-i-test.true T.0 T.1 U.0 U.1, U.0.to)

pub loop-i-preserved : goal.loop-i-preserved
loop-i-preserved c =
    let r = c.args.self.now in
    let labels = r.labels.now in
    let R = r.begun in
    let i = c.loop-i.invariant in
    let T = c.take_branches-some.ensures.0 in
    let U = c.take_entries-more.ensures in (
      omega (arith, i.0, T.from, U.0.from),
      U.0.to,
      outgoing_more labels R c.requires.0 i.0 T U.0 i.2,
      enters_more labels R c.requires.0 i.0 T U.0 i.3 U.2,
    )

pub shape_of-entered : goal.shape_of-entered
shape_of-entered c = c.loop-i.invariant.3.long

pub returns : goal.returns
returns c =
    let R = c.args.self.now.begun in
    let i = c.loop-i.invariant in
    let e : c.loop-i.i ≡ get_or c.args.self.now.begins.now (c.args.u + 1) 0 = omega arith in
    (outgoing_all R c.requires.0 e i.2, enters_all R _ c.requires.0 e i.3)
