use native.Mathlib.Omega.{arith}
use Rattle.follower.proofs.Narrows.{narrowing_first, narrowing_more, narrowing_all, narrowed_from}
use Rattle.follower.proofs.ways.narrow.Goals as goal

pub put_row-requires : goal.put_row-requires
put_row-requires c = let p = c.requires in omega (arith, p.1, p.2)

pub loop-k-init : goal.loop-k-init
loop-k-init c =
    let p = c.requires in
    narrowing_first p.1 _ p.2 c.empty.ensures c.with-aim.ensures c.put_row.ensures

pub row-requires : goal.row-requires
row-requires c = omega (arith, c.loop-k.invariant.long, c.loop-k.invariant.high, c.requires.1)

pub put_row-requires-in-loop-k : goal.put_row-requires-in-loop-k
put_row-requires-in-loop-k c = omega (arith, c.loop-k.invariant.long, c.loop-k.invariant.high, c.requires.1)

pub loop-k-preserved : goal.loop-k-preserved
loop-k-preserved c =
    narrowing_more c.requires.1 c.loop-k.invariant (omega (arith, c.loop-k-test.true))
    c.row.ensures c.leading-aim.ensures c.put_row-in-loop-k.ensures

pub returns : goal.returns
returns c =
    narrowed_from c.requires.1 _ c.put_row.ensures
    (narrowing_all c.requires.1 c.loop-k.invariant (omega (arith, c.loop-k-test.false)))
