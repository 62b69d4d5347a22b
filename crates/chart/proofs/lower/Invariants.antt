use mathlib.Core.Path.{◌≡◌}
use Prim.Native.Nat.{◌-◌}
use Rattle.bits.specs.Bits.{Bytes}
use Rattle.chart.specs.Bodies.{count_of, WellFormed}
use Rattle.chart.proofs.Order.{Bracket}
use Rattle.chart.proofs.lower.Given as goal

abbrev pub invariant-loop-lo : goal.invariant-loop-lo
invariant-loop-lo l = WellFormed l.body × Bytes l.body × (l.n ≡ count_of l.body) × Bracket l.body l.n l.v l.lo l.hi

abbrev pub decreases-loop-lo : goal.decreases-loop-lo
decreases-loop-lo l = l.hi - l.lo
