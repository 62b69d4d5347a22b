use mathlib.Core.Path.{sym, subst}
use Prim.Native.Nat.{ℕ}
use native.Mathlib.Omega.{arith}
use lib.Bits.{bit_or}
use Rattle.bits.specs.Words.{With}
use native.Mathlib.Nat.{pow-le-pow_right}
use Rattle.bits.proofs.Words.{with_law}
use Rattle.bits.proofs.with_value.Goals as goal

pub overflow_cast-result : goal.overflow_cast-result
overflow_cast-result c = omega (arith, c.value.ensures, pow-le-pow_right {n = 2} (omega arith) {i = c.args.i} {j = 7} (omega (arith, c.requires)))

pub returns : goal.returns
returns c =
    subst (λ (b : ℕ). With c.args.byte c.args.i (bit_or c.args.byte b))
    (sym c.value.ensures) (with_law c.args.byte c.args.i)
