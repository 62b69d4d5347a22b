use mathlib.Core.Path.{sym, ◌∙◌, subst}
use lib.ListN.{replicate}
use Rattle.chart.specs.Images.{ActsFrom, Marks}
use Rattle.chart.proofs.Targets.{offers_none, offers_more, offers_all}
use Rattle.bits.specs.declared.walks.Numbers.{Numbers}
use Rattle.bits.proofs.Given.{walk, given_has}
use Rattle.bits.proofs.Listed.{none_members}
use Rattle.bits.proofs.Visits.{FromPast, visit}
use Rattle.chart.proofs.Chart.offered.Goals as goal

pub loop-u-init : goal.loop-u-init
loop-u-init c =
    subst (λ (n : Numbers). Marks (FromPast (ActsFrom c.args.self.now.body.now) c.args.set n.left) (replicate 256 0))
    (sym (c.into_iter-u-iterator.ensures.into_iter_gives ∙ c.members-u-items.ensures))
    offers_none

pub mark-requires : goal.mark-requires
mark-requires c =
    let W = walk c.into_iter-u-iterator.ensures.into_iter_gives c.members-u-items.ensures c.loop-u.yielded_by in
    ((given_has W c.in-Some.ensures.steps).below, c.loop-u.invariant.long)

pub loop-u-preserved : goal.loop-u-preserved
loop-u-preserved c =
    let W = walk c.into_iter-u-iterator.ensures.into_iter_gives c.members-u-items.ensures c.loop-u.yielded_by in
    offers_more (visit W c.in-Some.ensures.steps) c.loop-u.invariant c.mark.ensures

pub returns : goal.returns
returns c = offers_all (none_members _ c.in-None.ensures.steps.0) c.loop-u.invariant
