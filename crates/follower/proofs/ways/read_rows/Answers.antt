use mathlib.Core.Path.{sym, ◌∙◌, subst}
use native.Mathlib.Omega.{arith}
use Rattle.bits.specs.declared.walks.Numbers.{Numbers}
use Rattle.bits.proofs.Given.{walk, given_has}
use Rattle.bits.proofs.Listed.{none_members}
use Rattle.bits.proofs.Visits.{visit}
use Rattle.follower.proofs.Layers.{Reading, reading_none, reading_more, reading_all}
use Rattle.follower.proofs.ways.read_rows.Goals as goal

pub loop-u-init : goal.loop-u-init
loop-u-init c =
    subst (λ (n : Numbers). Reading c.args.chart.now.body.now c.args.layer n.left c.args.rows.now c.empty-all.result c.args.rows.now)
    (sym (c.into_iter-u-iterator.ensures.into_iter_gives ∙ c.members-u-items.ensures))
    (reading_none c.requires c.empty-all.ensures)

pub targets-targets-requires : goal.targets-targets-requires
targets-targets-requires c =
    let W = walk c.into_iter-u-iterator.ensures.into_iter_gives c.members-u-items.ensures c.loop-u.yielded_by in
    (given_has W c.in-Some.ensures.steps).below

pub put_row-requires : goal.put_row-requires
put_row-requires c =
    let W = walk c.into_iter-u-iterator.ensures.into_iter_gives c.members-u-items.ensures c.loop-u.yielded_by in
    omega (arith, (given_has W c.in-Some.ensures.steps).below, c.loop-u.invariant.long)

pub loop-u-preserved : goal.loop-u-preserved
loop-u-preserved c =
    let W = walk c.into_iter-u-iterator.ensures.into_iter_gives c.members-u-items.ensures c.loop-u.yielded_by in
    reading_more c.loop-u.invariant (visit W c.in-Some.ensures.steps) c.targets-targets.ensures c.put_row.ensures c.union-all.ensures

pub returns : goal.returns
returns c = reading_all c.loop-u.invariant (none_members _ c.in-None.ensures.steps.0)
