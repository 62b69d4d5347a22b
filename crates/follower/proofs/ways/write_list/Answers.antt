use native.Mathlib.Omega.{arith}
use Rattle.follower.proofs.Walks.{walking_first, action_low, action_leads, walking_more, walking_all}
use Rattle.follower.proofs.ways.write_list.Goals as goal

pub row-near-requires : goal.row-near-requires
row-near-requires c = omega (arith, c.requires.0.long)

pub loop-i-init : goal.loop-i-init
loop-i-init c = walking_first _ c.requires.0 c.row-near.ensures _

pub row-aim-requires : goal.row-aim-requires
row-aim-requires c = omega (arith, c.requires.0.long, c.requires.1, c.loop-i-test.true)

pub overflow_cast-out : goal.overflow_cast-out
overflow_cast-out c =
    let s = c.args.chart.now in
    omega (
      arith,
      action_low _ s.bytes c.requires.0 c.loop-i.invariant c.loop-i-test.true c.row-aim.ensures c.lowest_into-action.ensures,
    )

pub bounds-out-i : goal.bounds-out-i
bounds-out-i c = omega (arith, c.requires.2, c.loop-i.invariant.long, c.loop-i-test.true)

pub onward-near-requires : goal.onward-near-requires
onward-near-requires c =
    let s = c.args.chart.now in
    action_leads _ s.bytes c.requires.0 c.loop-i.invariant c.loop-i-test.true c.row-aim.ensures c.lowest_into-action.ensures

pub loop-i-preserved : goal.loop-i-preserved
loop-i-preserved c =
    let p = c.requires in
    walking_more _ c.args.chart.now.bytes p.0 c.loop-i.invariant c.loop-i-test.true
    c.row-aim.ensures c.lowest_into-action.ensures c.onward-near.ensures
    (omega (arith, p.2, c.loop-i.invariant.long, c.loop-i-test.true))

pub returns : goal.returns
returns c = walking_all _ c.requires.0 c.loop-i.invariant c.loop-i-test.false
