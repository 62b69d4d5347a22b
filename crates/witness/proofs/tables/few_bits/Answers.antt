use native.Mathlib.Omega.{arith}
use Rattle.witness.proofs.Sizes.{zero_bits}
use Rattle.witness.proofs.tables.few_bits.Goals as goal

pub returns-then-x-eq0 : goal.returns-then-x-eq0
returns-then-x-eq0 c = (omega (arith, zero_bits _ c.if-x-eq0.true), omega arith)
