use native.Mathlib.Omega.{arith}
use Rattle.expression.proofs.Stores.{writing_room, writing_on, writing_end, listing_next, listing_end}
use Rattle.expression.proofs.body.write_transitions.Goals as goal

pub write_leaving-at-requires : goal.write_leaving-at-requires
write_leaving-at-requires c =
    (omega arith, c.requires.1 _, writing_room _ _ _ _ _ _ c.loop-k.invariant _ _ (listing_next _ _ _ _ c.loop-k-test.true))

pub loop-k-preserved : goal.loop-k-preserved
loop-k-preserved c =
    writing_on _ _ _ _ _ _ c.loop-k.invariant _ _ (listing_next _ _ _ _ c.loop-k-test.true) _ _ c.write_leaving-at.ensures

pub returns : goal.returns
returns c = (writing_end _ _ _ _ _ _ c.loop-k.invariant (listing_end _ _ _ _ c.loop-k-test.false)).is
