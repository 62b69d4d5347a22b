use mathlib.Core.Path.{sym, ◌∙◌, subst}
use Prim.Native.Nat.{ℕ}
use Rattle.bits.specs.Sets.{Members}
use Rattle.chart.specs.Steps.{ActsOf}
use Rattle.bits.proofs.Visits.{visits_none, visits_more, visits_all}
use Rattle.bits.specs.declared.walks.Numbers.{Numbers}
use Rattle.bits.proofs.Given.{walk, given_has}
use Rattle.bits.proofs.Listed.{none_members}
use Rattle.bits.proofs.Visits.{FromPast, visit}
use Rattle.chart.proofs.Chart.image.Goals as goal

pub loop-u-init : goal.loop-u-init
loop-u-init c =
    subst (λ (n : Numbers). Members (FromPast (λ (u' w : ℕ). ActsOf c.args.self.now.body.now u' c.args.action w) c.args.set n.left) c.empty-targets.result)
    (sym (c.into_iter-u-iterator.ensures.into_iter_gives ∙ c.members-u-items.ensures))
    (visits_none c.empty-targets.ensures)

pub acting-requires : goal.acting-requires
acting-requires c =
    let W = walk c.into_iter-u-iterator.ensures.into_iter_gives c.members-u-items.ensures c.loop-u.yielded_by in
    (given_has W c.in-Some.ensures.steps).below

pub loop-u-preserved : goal.loop-u-preserved
loop-u-preserved c =
    let W = walk c.into_iter-u-iterator.ensures.into_iter_gives c.members-u-items.ensures c.loop-u.yielded_by in
    visits_more (visit W c.in-Some.ensures.steps) c.loop-u.invariant c.acting.ensures c.union-targets.ensures

pub returns : goal.returns
returns c = visits_all (none_members _ c.in-None.ensures.steps.0) c.loop-u.invariant
