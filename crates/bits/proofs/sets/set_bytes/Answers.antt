use Rattle.std.proofs.Common.{arith}
use Rattle.bits.proofs.Given.{walk, given_has, all_given}
use Rattle.bits.proofs.SetWriting.{writing_none, writing_more, writing_all}
use Rattle.bits.proofs.sets.set_bytes.Goals as goal

pub loop-v-init : goal.loop-v-init
loop-v-init c = writing_none

pub bounds-bytes-v : goal.bounds-bytes-v
bounds-bytes-v c =
    let W = walk c.into_iter-v-iterator.ensures.into_iter_gives c.members-v-items.ensures c.loop-v.yielded_by in
    omega (arith, (given_has W c.in-Some.ensures.steps).below)

pub loop-v-preserved : goal.loop-v-preserved
loop-v-preserved c =
    let W = walk c.into_iter-v-iterator.ensures.into_iter_gives c.members-v-items.ensures c.loop-v.yielded_by in
    let w = c.with_value in
    writing_more _ (given_has W c.in-Some.ensures.steps).below w.ensures (omega (arith, w.type_inv)) c.loop-v.invariant

pub returns : goal.returns
returns c =
    let W = walk c.into_iter-v-iterator.ensures.into_iter_gives c.members-v-items.ensures c.loop-v.yielded_by in
    writing_all (all_given W c.in-None.ensures.steps.0) c.loop-v.invariant
