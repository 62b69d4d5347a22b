use Prim.Native.Nat.{ℕ}
use Rattle.bits.specs.Sets.{Members}
use Rattle.chart.specs.Steps.{ActsOf}
use Rattle.bits.proofs.Visits.{FromPast}
use Rattle.chart.proofs.Chart.image.Given as goal

abbrev pub invariant-loop-u : goal.invariant-loop-u
invariant-loop-u l = Members (FromPast (λ (u' w : ℕ). ActsOf l.self.body.now u' l.action w) l.fn.set l.u-iterator.left) l.targets
