use native.Mathlib.Omega.{arith}
use mathlib.Core.Path.{refl}
use Rattle.chart.proofs.images.one_more_if.Goals as goal

pub returns-then-flag : goal.returns-then-flag
returns-then-flag c = rw c.if-flag.true refl

pub returns-else-flag : goal.returns-else-flag
returns-else-flag c = rw c.if-flag.false (omega arith)
