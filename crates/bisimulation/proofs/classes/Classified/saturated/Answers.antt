use Rattle.bisimulation.proofs.ClassLaws.{saturated_none, saturated_more, fewer}
use Rattle.bisimulation.proofs.classes.Classified.saturated.Goals as goal

pub loop-left-init : goal.loop-left-init
loop-left-init c = (λ k on. ((c.bit_and-left.ensures k).0 on).0, saturated_none _ _ _)

pub alike-more-requires : goal.alike-more-requires
alike-more-requires c = c.requires _ (c.loop-left.invariant.0 _ c.lowest_bit.ensures.on)

pub loop-left-smaller : goal.loop-left-smaller
loop-left-smaller c =
    fewer _ c.alike-more.result c.bit_and_not-left.result _ c.lowest_bit.ensures.on c.alike-more.ensures.0
    c.bit_and_not-left.ensures

pub loop-left-preserved : goal.loop-left-preserved
loop-left-preserved c =
    let i = c.loop-left.invariant in (
      λ k on. i.0 k ((c.bit_and_not-left.ensures k).0 on).0,
      saturated_more c.alike-more.result c.bit_or-all.result _ i.1 (i.0 _ c.lowest_bit.ensures.on)
          c.alike-more.ensures.1 c.bit_or-all.ensures,
    )
