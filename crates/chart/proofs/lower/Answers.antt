use borrow.Author.Rules.{rules}
use native.Mathlib.Nat.{le_refl}
use native.Mathlib.Omega.{arith}
use Rattle.chart.proofs.Order.{up, down, met}
use Rattle.chart.proofs.Checks.{well_formed}
use Rattle.chart.proofs.lower.Goals as goal

pub loop-lo-init : goal.loop-lo-init
loop-lo-init c = (
  well_formed _ c.requires.0,
  λ k. omega (arith, c.type_inv.body k),
  c.requires.1,
  record { order = search rules; within = le_refl _; below = λ k h. absurd (omega arith); above = λ k l h. absurd (omega arith) },
)

pub loop-lo-preserved-then-byte-v : goal.loop-lo-preserved-then-byte-v
loop-lo-preserved-then-byte-v c =
    let i = c.loop-lo.invariant in
    (i.0, i.1, i.2, up _ i.1 i.0 _ _ i.2 i.3 _ (omega arith) (omega arith) (omega arith))

pub loop-lo-preserved : goal.loop-lo-preserved
loop-lo-preserved c =
    let i = c.loop-lo.invariant in
    (i.0, i.1, i.2, down _ i.1 i.0 _ _ i.2 i.3 _ (omega arith) (omega arith) (omega arith))

pub returns : goal.returns
returns c = met c.loop-lo.invariant.3 c.loop-lo-test.false
