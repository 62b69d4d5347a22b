use mathlib.Core.Path.{refl, sym}
use native.Mathlib.Omega.{arith}
use Rattle.chart.proofs.Rows.{enters_more, enters_all, decides_stands}
use Rattle.elimination.proofs.opening.labelled_in.Goals as goal

pub loop-i-preserved : goal.loop-i-preserved
loop-i-preserved c =
    enters_more (omega (arith, c.loop-i-test.true, c.requires.1)) (sym c.byte-w.ensures.0) (decides_stands _ refl refl)
    c.with_if-set.ensures c.loop-i.invariant

pub returns : goal.returns
returns c = enters_all (omega (arith, c.requires.1, c.loop-i-test.false)) c.loop-i.invariant
