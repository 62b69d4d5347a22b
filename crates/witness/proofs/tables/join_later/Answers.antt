use mathlib.Core.Path.{◌≡◌}
use Prim.Native.Nat.{◌+◌, ◌-◌}
use native.Mathlib.Omega.{arith}
use Rattle.witness.proofs.Later.{later_none, later_more, later_all}
use Rattle.witness.proofs.tables.join_later.Goals as goal

pub loop-l-init : goal.loop-l-init
loop-l-init c = later_none c.args.top c.requires.2

pub loop-l-preserved : goal.loop-l-preserved
loop-l-preserved c =
    let l = c.loop-l in
    let e : l.l - 1 + 1 ≡ l.l = omega arith in
    let joined = rw (c.row-set.ensures, e) at c.join.ensures in
    later_more (l.l - 1) l.l (omega arith) (omega (arith, c.requires.1, l.auto.l)) (omega (arith, c.requires.0, l.auto.l)) l.invariant joined

pub returns : goal.returns
returns c = later_all c.loop-l.l (omega arith) c.loop-l.invariant
