use mathlib.Core.Path.{refl}
use native.Mathlib.Omega.{arith}
use Rattle.expression.proofs.Uses.{uses_next, uses_few, uses_start}
use Rattle.expression.proofs.Table.{all_good}
use Rattle.expression.proofs.nodes.Table.count_uses.Goals as goal

pub loop-k-init : goal.loop-k-init
loop-k-init c = uses_start _

pub add_uses-requires : goal.add_uses-requires
add_uses-requires c =
    let sized = c.args.self.now.sized in (
      record { sized = sized; inside = omega arith; good = all_good _ _ refl c.requires _ (omega arith) },
      uses_few _ _ 126 _ (omega (arith, sized.few)) c.loop-k.invariant,
    )

pub loop-k-preserved : goal.loop-k-preserved
loop-k-preserved c =
    uses_next _ _ (record { sized = c.args.self.now.sized; inside = omega arith; good = all_good _ _ refl c.requires _ (omega arith) })
    _ _ c.loop-k.invariant c.add_uses.ensures
