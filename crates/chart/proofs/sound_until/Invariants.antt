use Prim.Native.Nat.{◌-◌}
use lib.ListN.{length}
use Rattle.chart.specs.Codes.{Turn}
use Rattle.chart.proofs.sound_until.Given as goal

abbrev pub invariant-loop-p : goal.invariant-loop-p
invariant-loop-p l = Turn l.body l.p l.before

abbrev pub decreases-loop-p : goal.decreases-loop-p
decreases-loop-p l = length l.body - l.p
