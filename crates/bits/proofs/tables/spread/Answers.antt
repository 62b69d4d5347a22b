use Rattle.std.proofs.Common.{arith}
use Rattle.bits.proofs.Gains.{spread_none, spread_more, spread_all}
use Rattle.bits.proofs.Given.{scan, scan_on, all_places}
use Rattle.bits.proofs.tables.spread.Goals as goal

pub loop-k-init : goal.loop-k-init
loop-k-init c = spread_none _ _ _

pub overflow_add-v : goal.overflow_add-v
overflow_add-v c =
    let S = scan c.into_iter-k-iterator.ensures.into_iter_gives c.places-k-items.ensures c.loop-k.yielded_by in
    omega (arith, c.requires _ (scan_on S c.in-Some.ensures.steps).1, c.loop-k.invariant.gains.long)

pub join-requires : goal.join-requires
join-requires c =
    let S = scan c.into_iter-k-iterator.ensures.into_iter_gives c.places-k-items.ensures c.loop-k.yielded_by in
    omega (arith, c.requires _ (scan_on S c.in-Some.ensures.steps).1, c.loop-k.invariant.gains.long)

pub loop-k-preserved : goal.loop-k-preserved
loop-k-preserved c = spread_more _ c.loop-k.invariant c.join.ensures

pub returns : goal.returns
returns c =
    let S = scan c.into_iter-k-iterator.ensures.into_iter_gives c.places-k-items.ensures c.loop-k.yielded_by in
    spread_all c.ranges.x.fits (all_places S c.in-None.ensures.steps.0) c.loop-k.invariant
