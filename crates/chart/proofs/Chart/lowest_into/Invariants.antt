use Prim.Native.Nat.{ℕ}
use Rattle.bits.specs.First.{First}
use Rattle.chart.specs.Images.{ActsInto}
use Rattle.bits.proofs.Visits.{FromPast}
use Rattle.chart.proofs.Chart.lowest_into.Given as goal

abbrev pub invariant-loop-u : goal.invariant-loop-u
invariant-loop-u l = First (FromPast (λ (u' a : ℕ). ActsInto l.self.body.now u' l.aim a) l.fn.set l.u-iterator.left) 0 256 l.best
