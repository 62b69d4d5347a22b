use mathlib.Core.Path.{◌≡◌}
use mathlib.Core.Bool.{true}
use Prim.Native.Nat.{◌+◌, ◌*◌, ◌<◌}
use Rattle.chart.specs.Codes.{Turn}
use Rattle.chart.proofs.block_ok.Given as goal

abbrev pub invariant-loop-i : goal.invariant-loop-i
invariant-loop-i l = l.good ≡ true → l.before < 65536 * l.v → Turn l.body (l.p + 4 * l.i) l.before
