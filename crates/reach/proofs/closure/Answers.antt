use mathlib.Core.Logic.{inl}
use native.Mathlib.Omega.{arith}
use Rattle.bits.proofs.Members.{size_few}
use Rattle.theory.proofs.Tests.{not_so}
use Rattle.reach.proofs.Searches.{has_stop, round_none, round_more, round_less, searched}
use Rattle.reach.proofs.closure.Goals as goal

pub loop-past-init : goal.loop-past-init
loop-past-init c =
    let w = c.with-past.ensures in
    (round_none c.empty.ensures w, has_stop w, c.difference-left.ensures)

pub loop-past-smaller : goal.loop-past-smaller
loop-past-smaller c =
    let i = c.loop-past.invariant in
    let some = not_so c.is_empty.ensures c.loop-past-test.true in
    omega (arith, size_few c.union-past.result, round_less i.0 i.1 i.2 c.union-past.ensures some)

pub loop-past-preserved : goal.loop-past-preserved
loop-past-preserved c =
    let i = c.loop-past.invariant in
    let U = c.union-past.ensures in
    let more = round_more i.0 i.1 i.2 U c.led_to.ensures c.union-seen.ensures in
    (more, (U _).1 (inl i.1), c.difference-left-in-loop-past.ensures)

pub returns : goal.returns
returns c = let i = c.loop-past.invariant in searched i.0 i.2 (c.is_empty.ensures.0 c.loop-past-test.false)
