use Prim.Native.Nat.{◌+◌, ◌*◌}
use Rattle.chart.specs.Codes.{Turn}
use Rattle.chart.proofs.check_from.Given as goal

abbrev pub invariant-loop-i : goal.invariant-loop-i
invariant-loop-i l = Turn l.body (4 * l.i + 4) l.before
