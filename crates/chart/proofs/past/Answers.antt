use native.Mathlib.Nat.{le_refl}
use native.Mathlib.Omega.{arith}
use borrow.Author.Count.{below_more}
use Rattle.chart.proofs.Order.{first_above}
use Rattle.chart.proofs.Checks.{well_formed}
use Rattle.chart.proofs.past.Goals as goal

pub skip-i-requires : goal.skip-i-requires
skip-i-requires c = c.requires

pub loop-i-init : goal.loop-i-init
loop-i-init c =
    let p = c.requires in
    let s = c.skip-i.ensures in
    (well_formed _ p.passed, λ k. omega (arith, c.type_inv.body k), p.many, s.within, s.below)

pub returns-then-byte-v : goal.returns-then-byte-v
returns-then-byte-v c =
    let i = c.loop-i.invariant in
    first_above _ i.1 i.0 _ _ _ i.2 i.3 i.4 (λ h. omega arith)

pub loop-i-preserved : goal.loop-i-preserved
loop-i-preserved c =
    let i = c.loop-i.invariant in
    (i.0, i.1, i.2, omega arith, below_more _ _ i.4 (omega arith))

pub returns : goal.returns
returns c =
    let i = c.loop-i.invariant in
    first_above _ i.1 i.0 _ _ _ i.2 (le_refl _) (λ k h. i.4 k (omega (arith, h, c.loop-i-test.false)))
    (λ h. absurd (omega (arith, h)))
