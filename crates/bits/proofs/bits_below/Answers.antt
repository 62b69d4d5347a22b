use Prim.Native.Nat.{◌<◌}
use native.Mathlib.Omega.{arith}
use Rattle.bits.proofs.Words.{bit_worth, below_on}
use Rattle.bits.proofs.bits_below.Goals as goal

pub returns-then-k-eq64 : goal.returns-then-k-eq64
returns-then-k-eq64 c = λ j. rw c.if-k-eq64.true (below_on 64 j)

pub returns : goal.returns
returns c =
    let k = c.args.k in
    let h : k < 64 = omega (arith, c.requires, c.if-k-eq64.false) in
    λ j. rw (bit_worth k h) (below_on k j)
