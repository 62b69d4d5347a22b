use Prim.Native.Nat.{suc, ◌-◌}
use mathlib.Core.Path.{◌≡◌, refl}
use mathlib.Core.Bool.{false≢true}
use native.Mathlib.Omega.{arith}
use Rattle.expression.proofs.Trees.{descent_start, descent_next, descent_ready, descent_end}
use Rattle.expression.proofs.targets.try_find_targets.Goals as goal

pub loop-k-init : goal.loop-k-init
loop-k-init c = descent_start _ c.args.table.now.sized _ _ c.node_count-n.ensures c.requires

pub returns-then-not-try_aim_operands : goal.returns-then-not-try_aim_operands
returns-then-not-try_aim_operands c =
    let sized = c.args.table.now.sized in
    let e : c.loop-k.k ≡ suc (c.loop-k.k - 1) = omega arith in
    let no_turn = c.try_aim_operands.ensures.1 c.if-not-try_aim_operands.true in (
      (
        (λ t. absurd (false≢true t)),
        (λ w. absurd (no_turn (descent_ready _ sized w _ _ (omega arith) (rw e at c.loop-k.invariant)))),
      ),
      (λ t. absurd (false≢true t)),
    )

pub loop-k-preserved : goal.loop-k-preserved
loop-k-preserved c =
    let e : c.loop-k.k ≡ suc (c.loop-k.k - 1) = omega arith in
    let t = c.try_aim_operands.ensures.0 c.if-not-try_aim_operands.false in
    descent_next _ c.args.table.now.sized _ _ _ (omega arith) (rw e at c.loop-k.invariant) t

pub returns : goal.returns
returns c =
    let e : c.loop-k.k ≡ 0 = omega arith in
    let (well, targets) = descent_end _ c.args.table.now.sized _ _ c.requires (rw e at c.loop-k.invariant) in
    (((λ t. well), (λ w. refl)), (λ t. targets))
