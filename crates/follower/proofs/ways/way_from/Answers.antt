use native.Mathlib.Omega.{arith}
use Rattle.chart.proofs.Checks.{well_formed}
use Rattle.follower.specs.Layers.{no_way, too_short, written}
use Rattle.follower.proofs.Layers.{layers_found, no_layer}
use Rattle.follower.proofs.Narrows.{narrowed_leads, narrowed_writes}
use Rattle.follower.proofs.ways.way_from.Goals as goal

pub returns-in_default : goal.returns-in_default
returns-in_default c = no_way (no_layer c.in_default.ensures)

pub returns-then-out-d : goal.returns-then-out-d
returns-then-out-d c = let (l, L) = layers_found c.in-Some.ensures in too_short l L.nearest c.if-out-d.true

pub narrow-requires : goal.narrow-requires
narrow-requires c =
    let (l, L) = layers_found c.in-Some.ensures in
    let W = well_formed _ c.args.chart.now.passed in
    (L.rows_long, omega (arith, l, W.header.vertices_high), L.layers_long)

pub write_list-requires : goal.write_list-requires
write_list-requires c =
    let (l, L) = layers_found c.in-Some.ensures in
    let W = well_formed _ c.args.chart.now.passed in
    (narrowed_leads W L l c.narrow.ensures, omega (arith, l, W.header.vertices_high), c.if-out-d.false)

pub returns : goal.returns
returns c =
    let (l, L) = layers_found c.in-Some.ensures in
    let W = well_formed _ c.args.chart.now.passed in
    written l L.nearest c.if-out-d.false (narrowed_writes W L l c.narrow.ensures c.write_list.ensures)
