use native.Mathlib.Omega.{arith}
use Rattle.bits.proofs.Given.{walk, given_has, all_given}
use Rattle.witness.proofs.Lows.{putting_none, putting_more, putting_all}
use Rattle.witness.proofs.tables.put_level.Goals as goal

pub loop-v-init : goal.loop-v-init
loop-v-init c = putting_none

pub bounds-low-v : goal.bounds-low-v
bounds-low-v c =
    let W = walk c.into_iter-v-iterator.ensures.into_iter_gives c.members-v-items.ensures c.loop-v.yielded_by in
    omega (arith, (given_has W c.in-Some.ensures.steps).below)

pub loop-v-preserved : goal.loop-v-preserved
loop-v-preserved c = putting_more _ c.loop-v.invariant

pub returns : goal.returns
returns c =
    let W = walk c.into_iter-v-iterator.ensures.into_iter_gives c.members-v-items.ensures c.loop-v.yielded_by in
    putting_all c.requires.0 (all_given W c.in-None.ensures.steps.0) c.loop-v.invariant
