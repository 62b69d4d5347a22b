use Rattle.bits.proofs.Given.{scan, scan_on}
use Rattle.bisimulation.proofs.SmallLaws.{fitting_none, fitting_more}
use Rattle.bisimulation.proofs.steps.Steps.fitting.Goals as goal

pub loop-k-init : goal.loop-k-init
loop-k-init c = fitting_none

pub with_fitting-found-requires : goal.with_fitting-found-requires
with_fitting-found-requires c =
    let S = scan c.into_iter-k-iterator.ensures.into_iter_gives c.places-k-items.ensures c.loop-k.yielded_by in
    (c.requires.0 _ (scan_on S c.in-Some.ensures.steps).1, c.target-w.ensures.1)

pub loop-k-preserved : goal.loop-k-preserved
loop-k-preserved c =
    fitting_more _ c.with_fitting-found.result c.loop-k.invariant c.action-action.ensures.0 c.target-w.ensures.0
    c.with_fitting-found.ensures
