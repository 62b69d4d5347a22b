use Prim.Native.Nat.{◌<◌}
use native.Mathlib.Omega.{arith}
use Rattle.chart.proofs.Checks.{well_formed}
use Rattle.witness.proofs.Labellings.{loop_below}
use Rattle.witness.proofs.Lows.{low_none, low_more, low_all}
use Rattle.witness.proofs.tables.lowest_levels.Goals as goal

pub loop-level-init : goal.loop-level-init
loop-level-init c = low_none c.requires.3 c.empty-seen.ensures

pub put_level-requires : goal.put_level-requires
put_level-requires c = (c.loop-level.invariant.long, omega (arith, c.requires.1, c.loop-level-test.true))

pub loop-level-preserved : goal.loop-level-preserved
loop-level-preserved c =
    let l = c.loop-level in
    let h : l.level < 256 = omega (arith, c.requires.1, c.loop-level-test.true) in
    let R = c.row-here.ensures in
    let D = rw R at c.difference.ensures in
    let U = rw R at c.union-seen.ensures in
    low_more l.auto.level h l.invariant D c.put_level.ensures U

pub returns : goal.returns
returns c = λ b labels passed B.
    let W = well_formed b passed in
    low_all c.requires.2 (omega arith)
    (λ v m o. let p = loop_below b labels W B o in (omega (arith, p.0, W.header.vertices_high), p.1)) c.loop-level.invariant
