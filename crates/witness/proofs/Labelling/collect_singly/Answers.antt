use native.Mathlib.Omega.{arith}
use mathlib.Core.Path.{refl, ◌∙◌}
use Rattle.chart.proofs.Checks.{well_formed}
use Rattle.witness.proofs.Collecting.{levels_room, room_filled, singly_none, singly_more, singly_all}
use Rattle.witness.proofs.Labelling.collect_singly.Goals as goal

pub loop-i-init : goal.loop-i-init
loop-i-init c = (singly_none c.requires.2.collected, refl, refl, refl, refl)

pub byte-u-requires : goal.byte-u-requires
byte-u-requires c = omega (arith, c.loop-i-test.true, c.args.self.now.long, (well_formed _ c.args.self.now.chart.now.passed).header.whole)

pub byte-w-requires : goal.byte-w-requires
byte-w-requires c = omega (arith, c.loop-i-test.true, c.args.self.now.long, (well_formed _ c.args.self.now.chart.now.passed).header.whole)

pub collect_one-requires : goal.collect_one-requires
collect_one-requires c =
    let l = c.loop-i in
    let i = l.invariant in
    let (top, H, R) = c.requires in
    let w = well_formed _ c.args.self.now.chart.now.passed in
    let long = c.args.self.now.long in
    let e = w.each l.i (omega (arith, long)) in
    let u = c.byte-u.ensures.0 in
    let t = c.byte-w.ensures.0 in (
      omega (arith, u, e.from_high, R.for_next, i.1),
      omega (arith, u, e.from_high, R.for_branches, i.2),
      omega (arith, u, e.from_high, R.for_entries, i.3),
      omega (arith, c.byte.ensures.0, levels_room H R l.i c.loop-i-test.true, i.4),
      omega (arith, u, e.from_high, w.header.vertices_high),
      omega (arith, t, e.to_high, w.header.vertices_high),
    )

pub loop-i-preserved : goal.loop-i-preserved
loop-i-preserved c =
    let l = c.loop-i in
    let i = l.invariant in
    let (top, H, R) = c.requires in
    let w = well_formed _ c.args.self.now.chart.now.passed in
    let long = c.args.self.now.long in
    let e = w.each l.i (omega (arith, long)) in
    let u = c.byte-u.ensures.0 in
    let (N, B, E, D) = c.collect_one.ensures in (
      singly_more l.i (omega (arith, long)) u c.byte.ensures.0 c.byte-w.ensures.0
          (omega (arith, u, e.from_high, R.for_next, i.1))
          (omega (arith, u, e.from_high, R.for_branches, i.2))
          (omega (arith, u, e.from_high, R.for_entries, i.3))
          (omega (arith, c.byte.ensures.0, levels_room H R l.i c.loop-i-test.true, i.4))
          i.0 N B E D,
      N.long ∙ i.1,
      B.long ∙ i.2,
      E.long ∙ i.3,
      D.long ∙ i.4,
    )

pub returns : goal.returns
returns c =
    let i = c.loop-i.invariant in
    λ top. room_filled i.1 i.2 i.3 i.4 (singly_all (omega (arith, c.args.self.now.long)) i.0)
