use native.Mathlib.Omega.{arith}
use Rattle.elimination.proofs.LoopLists.{length_fits, twice_refused, list_passes}
use Rattle.elimination.proofs.loop_list.list_fits.Goals as goal

pub returns-then-stands_before : goal.returns-then-stands_before
returns-then-stands_before c = twice_refused _ _ c.loop-i-test.true (c.stands_before.ensures.0 c.if-stands_before.true)

pub returns : goal.returns
returns c =
    let (e, s) = length_fits _ c.if-n.false in
    list_passes _ e s (λ k h. c.loop-i.invariant k (omega (arith, h, c.loop-i-test.false)))
