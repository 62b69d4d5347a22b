use mathlib.Core.Path.{sym, subst}
use lib.Bits.{bit_or}
use Prim.Native.Nat.{ℕ}
use Rattle.bits.specs.Words.{With}
use Rattle.bits.proofs.Words.{with_law, bit_worth}
use Rattle.bits.proofs.with_bit.Goals as goal

pub returns : goal.returns
returns c = subst (λ (b : ℕ). With c.args.x c.args.k (bit_or c.args.x b)) (sym (bit_worth c.args.k c.requires)) (with_law c.args.x c.args.k)
