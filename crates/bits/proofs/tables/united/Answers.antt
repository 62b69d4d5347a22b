use Rattle.std.proofs.Common.{arith}
use Rattle.bits.proofs.Gains.{row_members}
use Rattle.bits.proofs.Given.{scan, scan_on, all_places, gives_none, gives_more, gives_places}
use Rattle.bits.proofs.tables.united.Goals as goal

pub loop-i-init : goal.loop-i-init
loop-i-init c = gives_none c.empty-all.ensures

pub row-requires : goal.row-requires
row-requires c =
    let S = scan c.into_iter-i-iterator.ensures.into_iter_gives c.places-i-items.ensures c.loop-i.yielded_by in
    omega (arith, (scan_on S c.in-Some.ensures.steps).0, c.requires)

pub loop-i-preserved : goal.loop-i-preserved
loop-i-preserved c = gives_more c.loop-i.invariant (row_members _ _ c.row.ensures) c.union-all.ensures

pub returns : goal.returns
returns c =
    let S = scan c.into_iter-i-iterator.ensures.into_iter_gives c.places-i-items.ensures c.loop-i.yielded_by in
    gives_places c.ranges.x.fits (all_places S c.in-None.ensures.steps.0) c.loop-i.invariant
