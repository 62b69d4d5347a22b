use native.Mathlib.Omega.{arith}
use Rattle.expression.proofs.Stores.{writing_room, writing_on, writing_end, fits_rest, word_next, word_end, transition_long}
use Rattle.expression.proofs.body.write_leaving.Goals as goal

pub write_transition-p-requires : goal.write_transition-p-requires
write_transition-p-requires c =
    let i = c.loop-left.invariant in
    let L = c.lowest_bit-i.ensures in
    let room = writing_room _ _ _ _ _ _ i.2 _ _ (word_next _ _ _ _ _ L (c.without_lowest-left.ensures _ L)) in
    (i.0, omega (arith, L.within), i.1.each _ L.on, omega (arith, room, transition_long c.args.keys.now c.args.k c.lowest_bit-i.result))

pub loop-left-preserved : goal.loop-left-preserved
loop-left-preserved c =
    let i = c.loop-left.invariant in
    let L = c.lowest_bit-i.ensures in
    let W = c.without_lowest-left.ensures _ L in
    (i.0, fits_rest _ _ _ _ i.1 W, writing_on _ _ _ _ _ _ i.2 _ _ (word_next _ _ _ _ _ L W) _ _ c.write_transition-p.ensures)

pub returns : goal.returns
returns c = let i = c.loop-left.invariant in writing_end _ _ _ _ _ _ i.2 (word_end _ _ _ c.loop-left-test.false)
