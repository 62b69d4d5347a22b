use Rattle.std.proofs.Common.{arith}
use Rattle.bits.proofs.Gains.{row_members}
use Rattle.bits.proofs.Given.{scan, scan_on, all_places, gives_none, gives_more, gives_places}
use Rattle.bits.proofs.tables.united_from.Goals as goal

pub loop-k-init : goal.loop-k-init
loop-k-init c = gives_none c.empty-all.ensures

pub overflow_add-v : goal.overflow_add-v
overflow_add-v c =
    let S = scan c.into_iter-k-iterator.ensures.into_iter_gives c.places-k-items.ensures c.loop-k.yielded_by in
    omega (arith, (scan_on S c.in-Some.ensures.steps).0, c.requires.1)

pub loop-k-preserved : goal.loop-k-preserved
loop-k-preserved c = gives_more c.loop-k.invariant (row_members _ _ c.row_or_empty.ensures) c.union-all.ensures

pub returns : goal.returns
returns c =
    let S = scan c.into_iter-k-iterator.ensures.into_iter_gives c.places-k-items.ensures c.loop-k.yielded_by in
    gives_places c.ranges.x.fits (all_places S c.in-None.ensures.steps.0) c.loop-k.invariant
