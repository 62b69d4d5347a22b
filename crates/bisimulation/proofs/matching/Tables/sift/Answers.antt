use mathlib.Core.Path.{◌∙◌}
use Rattle.bits.proofs.Given.{walk}
use Rattle.bits.proofs.Listed.{none_members}
use Rattle.bits.proofs.Visits.{visit}
use Rattle.bisimulation.proofs.SuspectLaws.{sift_none, sift_more, sift_all}
use Rattle.bisimulation.proofs.matching.Tables.sift.Goals as goal

pub loop-v-init : goal.loop-v-init
loop-v-init c = sift_none _ _ _ _ _ _ _ (c.into_iter-v-iterator.ensures.into_iter_gives ∙ c.members-v-items.ensures)

pub loop-v-preserved : goal.loop-v-preserved
loop-v-preserved c =
    let T = visit (walk c.into_iter-v-iterator.ensures.into_iter_gives c.members-v-items.ensures c.loop-v.yielded_by) c.in-Some.ensures.steps in
    sift_more c.loop-v.invariant T c.vertex_passes-passed.ensures c.with_if-found.ensures

pub returns : goal.returns
returns c = sift_all c.loop-v.invariant (none_members _ c.in-None.ensures.steps.0)
