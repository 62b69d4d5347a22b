use mathlib.Core.Path.{◌≡◌}
use Prim.Native.Nat.{◌≤◌, ◌<◌}
use Rattle.verdict.specs.Files.{offset_of, Whole}
use Rattle.verdict.proofs.offset.Given as goal

abbrev pub invariant-loop-i : goal.invariant-loop-i
invariant-loop-i l = Whole l.file × (l.at ≡ offset_of l.file l.i) × (l.i ≤ l.k) × (l.k < 4)
