use mathlib.Core.Path.{sym, ◌∙◌, subst}
use Prim.Native.Nat.{ℕ}
use Rattle.bits.specs.First.{First}
use Rattle.chart.specs.Images.{ActsInto}
use Rattle.chart.proofs.Lowest.{leads_none, leads_more, leads_all}
use Rattle.bits.specs.declared.walks.Numbers.{Numbers}
use Rattle.bits.proofs.Given.{walk, given_has}
use Rattle.bits.proofs.Listed.{none_members}
use Rattle.bits.proofs.Visits.{FromPast, visit}
use Rattle.chart.proofs.Chart.lowest_into.Goals as goal

pub loop-u-init : goal.loop-u-init
loop-u-init c =
    subst (λ (n : Numbers). First (FromPast (λ (u' a : ℕ). ActsInto c.args.self.now.body.now u' c.args.aim a) c.args.set n.left) 0 256 256)
    (sym (c.into_iter-u-iterator.ensures.into_iter_gives ∙ c.members-u-items.ensures))
    leads_none

pub lowest_from-best-requires : goal.lowest_from-best-requires
lowest_from-best-requires c =
    let W = walk c.into_iter-u-iterator.ensures.into_iter_gives c.members-u-items.ensures c.loop-u.yielded_by in
    (given_has W c.in-Some.ensures.steps).below

pub loop-u-preserved : goal.loop-u-preserved
loop-u-preserved c =
    let W = walk c.into_iter-u-iterator.ensures.into_iter_gives c.members-u-items.ensures c.loop-u.yielded_by in
    leads_more (visit W c.in-Some.ensures.steps) c.loop-u.invariant c.lowest_from-best.ensures

pub returns : goal.returns
returns c = leads_all (none_members _ c.in-None.ensures.steps.0) c.loop-u.invariant
