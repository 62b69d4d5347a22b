use mathlib.Core.Path.{refl}
use Prim.Native.Nat.{ℕ}
use native.Mathlib.Omega.{arith}
use lib.Dec.{eqb}
use lib.ListN.{get_or}
use Rattle.chart.proofs.Targets.{count_more, count_end, flag_low}
use Rattle.chart.proofs.images.count_marks.Goals as goal

pub loop-mark-preserved : goal.loop-mark-preserved
loop-mark-preserved c =
    let l = c.loop-mark in
    let i = l.invariant in
    let m = c.args.marks.now in
    let b = eqb (get_or m l.mark-index 0) 1 in
    let e = c.one_more_if-total.ensures in (
      omega (arith, i.0, e, flag_low b),
      omega (arith, i.1, e, count_more (λ (a : ℕ). eqb (get_or m a 0) 1) {n = 256} {i = l.mark-index} {b = b} (omega (arith, c.loop-mark-test.true, c.requires)) refl),
    )

pub returns : goal.returns
returns c =
    let l = c.loop-mark in
    omega (
      arith,
      l.invariant.1,
      count_end (λ (a : ℕ). eqb (get_or c.args.marks.now a 0) 1) {n = 256}
          {i = l.mark-index} (omega (arith, c.loop-mark-test.false, c.requires)),
    )
