use native.Mathlib.Omega.{arith}
use Rattle.bits.proofs.Words.{at_power}
use Rattle.bits.proofs.has_bit.Goals as goal

pub returns : goal.returns
returns c =
    let b = c.byte.ensures in
    rw (b.0, c.value.ensures) (at_power _ _ (omega (arith, b)))
