use Prim.Native.Nat.{◌+◌}
use native.Mathlib.Omega.{arith}
use Rattle.chart.proofs.Order.{sorted}
use Rattle.chart.proofs.Checks.{well_formed}
use Rattle.chart.proofs.skip.Goals as goal

pub loop-i-init : goal.loop-i-init
loop-i-init c =
    let p = c.requires in
    (well_formed _ p.passed, λ k. omega (arith, c.type_inv.body k), p.many, p.within, p.below)

pub overflow_add-i : goal.overflow_add-i
overflow_add-i c = let i = c.loop-i.invariant in omega (arith, i.0.header.count_high)

pub returns-then-byte-v : goal.returns-then-byte-v
returns-then-byte-v c = let i = c.loop-i.invariant in record { passed = c.requires.passed; many = i.2; within = i.3; below = i.4 }

pub loop-i-preserved : goal.loop-i-preserved
loop-i-preserved c =
    let l = c.loop-i in
    let i = l.invariant in
    (i.0, i.1, i.2, omega arith, λ k h. omega (arith, sorted _ i.1 i.0 k (l.i + 7) (omega arith) (omega arith)))

pub returns : goal.returns
returns c = let i = c.loop-i.invariant in record { passed = c.requires.passed; many = i.2; within = i.3; below = i.4 }
