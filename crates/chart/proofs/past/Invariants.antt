use mathlib.Core.Path.{◌≡◌}
use Prim.Native.Nat.{ℕ, ◌≤◌, ◌<◌}
use Rattle.bits.specs.Bits.{Bytes}
use Rattle.chart.specs.Bodies.{count_of, from_of, WellFormed}
use Rattle.chart.proofs.past.Given as goal

abbrev pub invariant-loop-i : goal.invariant-loop-i
invariant-loop-i l = WellFormed l.body × Bytes l.body × (l.n ≡ count_of l.body) × (l.i ≤ l.n) × ((k : ℕ) → k < l.i → from_of l.body k < l.v)
