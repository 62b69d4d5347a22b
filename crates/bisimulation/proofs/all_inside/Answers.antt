use native.Mathlib.Omega.{arith}
use Rattle.chart.proofs.Checks.{well_formed}
use Rattle.bisimulation.proofs.PairChecks.{rows_none, rows_more, joined_inside}
use Rattle.bisimulation.proofs.all_inside.Goals as goal

pub loop-u-init : goal.loop-u-init
loop-u-init c = rows_none _ c.empty-all.ensures

pub loop-u-preserved : goal.loop-u-preserved
loop-u-preserved c = rows_more c.loop-u.invariant c.row.ensures c.union-all.ensures

pub byte-requires : goal.byte-requires
byte-requires c = omega (arith, (well_formed _ c.requires).header.long)

pub below-requires : goal.below-requires
below-requires c = omega (arith, c.byte.ensures.0, (well_formed _ c.requires).header.vertices_high)

pub returns : goal.returns
returns c =
    let inside = rw c.byte.ensures.0 at c.below.ensures in
    let E = c.is_empty.ensures in
    let J = joined_inside c.args.body.now _ c.args.relation.now.whole c.loop-u-test.false c.loop-u.invariant inside c.difference.ensures in
    ((λ e. J.0 (E.0 e)), (λ n. E.1 (J.1 n)))
