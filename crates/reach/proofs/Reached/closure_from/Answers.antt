use native.Mathlib.Omega.{arith}
use Rattle.bits.proofs.Members.{size_few}
use Rattle.reach.proofs.Searches.{searching, search_on, search_less, searched, from_closed}
use Rattle.reach.proofs.Reached.closure_from.Goals as goal

pub loop-left-init : goal.loop-left-init
loop-left-init c = (searching c.requires.1 c.union.ensures, c.left-left.ensures)

pub loop-left-smaller : goal.loop-left-smaller
loop-left-smaller c =
    let i = c.loop-left.invariant in
    let m = c.with_highest-marked.ensures in
    let v = c.visit-s in
    omega (arith, size_few v.result.past, search_less v.result i.0 i.1 m.0 m.1 v.ensures)

pub loop-left-preserved : goal.loop-left-preserved
loop-left-preserved c =
    let i = c.loop-left.invariant in
    let m = c.with_highest-marked.ensures in
    let v = c.visit-s in
    (search_on v.result i.0 i.1 m.0 m.1 v.ensures, c.left-left-in-loop-left.ensures)

pub returns : goal.returns
returns c =
    let i = c.loop-left.invariant in
    from_closed c.requires.1 c.union.ensures (searched i.0 i.1 (c.is_empty.ensures.0 c.loop-left-test.false))
