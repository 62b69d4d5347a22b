use Prim.Native.Nat.{◌+◌, ◌-◌}
use mathlib.Core.Path.{◌≡◌, subst}
use native.Mathlib.Omega.{arith}
use Rattle.chart.specs.Parts.{Lower}
use Rattle.chart.proofs.Targets.{lower_none, lower_more}
use Rattle.chart.proofs.images.skip_lower.Goals as goal

pub loop-end-init : goal.loop-end-init
loop-end-init c = (omega arith, lower_none)

pub loop-end-preserved : goal.loop-end-preserved
loop-end-preserved c =
    let l = c.loop-end in
    let e : l.end ≡ l.end + 8 - 8 = omega arith in
    (omega arith, subst (Lower c.args.rows.now c.args.action) e (lower_more c.requires l.invariant.0 c.loop-end-test.true c.if-rows-end.false))
