use mathlib.Core.Path.{sym, ◌∙◌, subst}
use native.Mathlib.Omega.{arith}
use Rattle.bits.specs.declared.walks.Numbers.{Numbers}
use Rattle.bits.specs.Sets.{Members}
use Rattle.bits.proofs.Given.{walk, given_has}
use Rattle.bits.proofs.Listed.{none_members}
use Rattle.bits.proofs.Visits.{FromPast, visit}
use Rattle.follower.proofs.Narrows.{Stays, leading_none, leading_more, leading_all}
use Rattle.follower.proofs.ways.leading.Goals as goal

pub loop-u-init : goal.loop-u-init
loop-u-init c =
    subst (λ (n : Numbers). Members (FromPast (Stays c.args.rows.now c.args.aim) c.args.layer n.left) c.empty-kept.result)
    (sym (c.into_iter-u-iterator.ensures.into_iter_gives ∙ c.members-u-items.ensures))
    (leading_none _ c.empty-kept.ensures)

pub row-requires : goal.row-requires
row-requires c =
    let W = walk c.into_iter-u-iterator.ensures.into_iter_gives c.members-u-items.ensures c.loop-u.yielded_by in
    omega (arith, (given_has W c.in-Some.ensures.steps).below, c.requires)

pub with_if-kept-requires : goal.with_if-kept-requires
with_if-kept-requires c =
    let W = walk c.into_iter-u-iterator.ensures.into_iter_gives c.members-u-items.ensures c.loop-u.yielded_by in
    (given_has W c.in-Some.ensures.steps).below

pub loop-u-preserved : goal.loop-u-preserved
loop-u-preserved c =
    let W = walk c.into_iter-u-iterator.ensures.into_iter_gives c.members-u-items.ensures c.loop-u.yielded_by in
    leading_more _ (visit W c.in-Some.ensures.steps) c.row.ensures c.intersection-met.ensures c.is_empty.ensures
    c.with_if-kept.ensures c.loop-u.invariant

pub returns : goal.returns
returns c = leading_all _ (none_members _ c.in-None.ensures.steps.0) c.loop-u.invariant
