use mathlib.Core.Path.{refl, ◌∙◌}
use native.Mathlib.Omega.{arith}
use Rattle.chart.proofs.Checks.{well_formed}
use Rattle.witness.proofs.Collecting.{levels_room, room_filled, collected_begin, put_as_long, collected_more, collected_all}
use Rattle.witness.proofs.Labelling.collect_runs.Goals as goal

pub fill_ones-requires : goal.fill_ones-requires
fill_ones-requires c = refl

pub invariant_of-runs : goal.invariant_of-runs
invariant_of-runs c =
    let l = c.args.self.now in
    record {
      bytes = l.bytes;
      formed = well_formed _ l.chart.now.passed;
      long = l.long;
      begun = l.chart.now.begun;
      of_ones = rw c.vertices-n.ensures.0 at c.fill_ones.ensures;
    }

pub loop-u-init : goal.loop-u-init
loop-u-init c = (collected_begin (well_formed _ c.args.self.now.chart.now.passed) c.requires.2.collected, refl, refl, refl, refl)

pub outgoing_of-out-requires : goal.outgoing_of-out-requires
outgoing_of-out-requires c = (
  omega (arith, c.vertices-n.ensures.2, c.loop-u-test.true),
  λ j h. omega (arith, levels_room c.requires.1 c.requires.2 j h, c.loop-u.invariant.4),
)

pub put_row-requires : goal.put_row-requires
put_row-requires c = omega (arith, c.vertices-n.ensures.0, c.loop-u-test.true, c.requires.2.for_next, c.loop-u.invariant.1)

pub put_row-requires-in-loop-u : goal.put_row-requires-in-loop-u
put_row-requires-in-loop-u c = omega (arith, c.vertices-n.ensures.0, c.loop-u-test.true, c.requires.2.for_branches, c.loop-u.invariant.2)

pub put_row-requires-in-loop-u-2 : goal.put_row-requires-in-loop-u-2
put_row-requires-in-loop-u-2 c = omega (arith, c.vertices-n.ensures.0, c.loop-u-test.true, c.requires.2.for_entries, c.loop-u.invariant.3)

pub loop-u-preserved : goal.loop-u-preserved
loop-u-preserved c =
    let i = c.loop-u.invariant in
    let r = c.outgoing_of-out.ensures in
    let N = c.put_row.ensures in
    let B = c.put_row-in-loop-u.ensures in
    let E = c.put_row-in-loop-u-2.ensures in
    let (top, H, R) = c.requires in
    let n = c.vertices-n.ensures.0 in
    let k = c.loop-u-test.true in (
      collected_more r.0 (omega (arith, n, k, R.for_next, i.1)) (omega (arith, n, k, R.for_branches, i.2)) (omega (arith, n, k, R.for_entries, i.3))
          (λ m x w s. omega (arith, levels_room H R s.at (omega (arith, s.within, c.args.self.now.long)), s.holds.is, i.4))
          i.0 r.1 c.union.ensures N B E,
      put_as_long _ _ _ N ∙ i.1,
      put_as_long _ _ _ B ∙ i.2,
      put_as_long _ _ _ E ∙ i.3,
      r.1.long ∙ i.4,
    )

pub returns : goal.returns
returns c =
    let w = well_formed _ c.args.self.now.chart.now.passed in
    let i = c.loop-u.invariant in
    let all = collected_all w (omega (arith, c.vertices-n.ensures.0, c.vertices-n.ensures.1)) i.0 in
    λ top. room_filled i.1 i.2 i.3 i.4 all
