use native.Mathlib.Omega.{arith}
use Rattle.bits.proofs.Gains.{gains_none, gains_insert}
use Rattle.witness.proofs.tables.collect_one.Goals as goal

pub returns-then-label-eq0 : goal.returns-then-label-eq0
returns-then-label-eq0 c = (
  c.insert.ensures,
  gains_insert (omega arith) c.insert-then-label-eq0.ensures,
  gains_none (λ x y (z, p, q). omega arith),
  gains_none (λ x y (z, p, q). omega arith),
)

pub returns : goal.returns
returns c = (
  c.insert.ensures,
  gains_none (λ x y (z, p, q). omega arith),
  gains_insert (omega arith) c.insert-2.ensures,
  gains_insert (omega arith) c.insert-3.ensures,
)
