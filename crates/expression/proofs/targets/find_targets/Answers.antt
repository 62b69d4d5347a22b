use Prim.Native.Nat.{suc, ◌-◌}
use mathlib.Core.Path.{◌≡◌}
use native.Mathlib.Omega.{arith}
use Rattle.expression.proofs.Aims.{aim_start, aim_next, aim_end}
use Rattle.expression.proofs.targets.find_targets.Goals as goal

pub loop-k-init : goal.loop-k-init
loop-k-init c = rw c.requires (aim_start _ c.args.tree.now.formed _ c.node_count-k.ensures)

pub loop-k-preserved : goal.loop-k-preserved
loop-k-preserved c =
    let e : c.loop-k.k ≡ suc (c.loop-k.k - 1) = omega arith in
    aim_next _ c.args.tree.now.formed _ _ _ (omega arith) (rw e at c.loop-k.invariant) c.aim_operands.ensures

pub returns : goal.returns
returns c =
    let e : c.loop-k.k ≡ 0 = omega arith in
    aim_end _ c.args.tree.now.formed _ (rw e at c.loop-k.invariant)
