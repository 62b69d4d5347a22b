use native.Mathlib.Omega.{arith}
use mathlib.Core.Path.{◌∙◌}
use Rattle.bits.proofs.Given.{walk}
use Rattle.bits.proofs.Listed.{none_members}
use Rattle.bits.proofs.Visits.{visit}
use Rattle.bisimulation.proofs.SuspectLaws.{adds_none, cuts_none, adds_more, cuts_more, adds_as}
use Rattle.bisimulation.proofs.SuspectLaws.{cuts_as, past_none, past_next, past_last}
use Rattle.bisimulation.proofs.matching.VertexSteps.spread.Goals as goal

pub loop-w-init : goal.loop-w-init
loop-w-init c =
    let f = past_none (c.into_iter-w-iterator.ensures.into_iter_gives ∙ c.members-w-items.ensures) in
    (adds_none f, cuts_none f, adds_none f)

pub loop-w-preserved : goal.loop-w-preserved
loop-w-preserved c =
    let i = c.loop-w.invariant in
    let W = walk c.into_iter-w-iterator.ensures.into_iter_gives c.members-w-items.ensures c.loop-w.yielded_by in
    let T = visit W c.in-Some.ensures.steps in (
      adds_more c.bit_or.result (omega (arith, i.0.long, T.has.below)) (past_next T) i.0 c.bit_or.ensures,
      cuts_more c.bit_and.result (omega (arith, i.1.long, T.has.below)) (past_next T) i.1 c.bit_and.ensures,
      adds_more c.bit_or-in-loop-w.result (omega (arith, i.2.long, T.has.below)) (past_next T) i.2 c.bit_or-in-loop-w.ensures,
    )

pub returns : goal.returns
returns c =
    let i = c.loop-w.invariant in
    let E = past_last (none_members _ c.in-None.ensures.steps.0) in
    (adds_as E i.0, cuts_as E i.1, adds_as E i.2)
