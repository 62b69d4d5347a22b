use mathlib.Core.Path.{sym, ◌∙◌}
use mathlib.Core.Bool.{true≢false}
use native.Mathlib.Omega.{arith}
use Prim.Native.Nat.{◌<◌}
use Rattle.chart.specs.Bodies.{vertices_of}
use Rattle.chart.proofs.Checks.{well_formed}
use Rattle.follower.specs.Layers.{found, not_found}
use Rattle.follower.proofs.Layers.{layering_first, layering_ends, layering_more}
use Rattle.follower.proofs.ways.layers_from.Goals as goal

pub loop-k-init : goal.loop-k-init
loop-k-init c = layering_first _ _ c.requires.0 c.requires.1

pub put_row-requires : goal.put_row-requires
put_row-requires c = omega (arith, c.loop-k.invariant.layers_long, c.loop-k-test.true, c.vertices-k-end.ensures)

pub returns-then-contains : goal.returns-then-contains
returns-then-contains c =
    let W = well_formed _ c.args.chart.now.passed in
    let l : c.loop-k.k < vertices_of c.args.chart.now.body.now = omega (arith, c.vertices-k-end.ensures.0, c.loop-k-test.true) in
    found l (layering_ends _ W c.loop-k.invariant l c.put_row.ensures (c.contains.ensures.0 c.if-contains.true))

pub read_rows-requires : goal.read_rows-requires
read_rows-requires c = c.loop-k.invariant.rows_long

pub loop-k-preserved : goal.loop-k-preserved
loop-k-preserved c =
    let W = well_formed _ c.args.chart.now.passed in
    layering_more _ W c.loop-k.invariant (omega (arith, c.vertices-k-end.ensures.0, c.loop-k-test.true)) c.put_row.ensures
    (λ h. true≢false (sym (c.contains.ensures.1 h) ∙ c.if-contains.false)) c.read_rows.ensures
    c.difference-layer.ensures c.union-seen.ensures

pub returns : goal.returns
returns c =
    not_found (λ k l. c.loop-k.invariant.sooner k (omega (arith, l, c.vertices-k-end.ensures.0, c.loop-k-test.false)))
