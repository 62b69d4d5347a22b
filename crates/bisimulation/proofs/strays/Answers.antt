use native.Mathlib.Omega.{arith}
use Rattle.chart.proofs.Checks.{well_formed}
use borrow.Author.Count.{below_more}
use Rattle.bisimulation.proofs.PairChecks.{stray_first, stray_none, stray_passed}
use Rattle.bisimulation.proofs.RowLaws.{related_row}
use Rattle.bisimulation.proofs.strays.Goals as goal

pub byte-requires : goal.byte-requires
byte-requires c = omega (arith, (well_formed _ c.requires).header.long)

pub below-inside-requires : goal.below-inside-requires
below-inside-requires c = omega (arith, c.byte.ensures.0, (well_formed _ c.requires).header.vertices_high)

pub returns-then-v-lt128 : goal.returns-then-v-lt128
returns-then-v-lt128 c =
    let I = rw c.byte.ensures.0 at c.below-inside.ensures in
    stray_first _ _ _ c.row.ensures I c.difference.ensures c.lowest-v.ensures c.loop-u.invariant c.if-v-lt128.true

pub loop-u-preserved : goal.loop-u-preserved
loop-u-preserved c =
    let I = rw c.byte.ensures.0 at c.below-inside.ensures in
    below_more _ _ c.loop-u.invariant (stray_none c.args.body.now _ _ c.row.ensures I c.difference.ensures c.lowest-v.ensures c.if-v-lt128.false)

pub returns : goal.returns
returns c =
    stray_passed (λ u v s. c.loop-u.invariant u (omega (arith, related_row _ _ u v c.args.relation.now.whole s.1, c.loop-u-test.false)) v s)
