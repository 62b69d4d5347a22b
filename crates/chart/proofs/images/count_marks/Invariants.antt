use mathlib.Core.Path.{◌≡◌}
use Prim.Native.Nat.{◌+◌, ◌-◌, ◌≤◌}
use lib.Dec.{eqb}
use lib.ListN.{length, get_or}
use Rattle.bits.specs.Bits.{list_from}
use Rattle.chart.specs.Images.{marked_of}
use Rattle.chart.proofs.images.count_marks.Given as goal

abbrev pub invariant-loop-mark : goal.invariant-loop-mark
invariant-loop-mark l = (l.total ≤ l.mark-index)
    × (l.total + length (list_from (λ a. eqb (get_or l.marks a 0) 1) l.mark-index (256 - l.mark-index)) ≡ length (marked_of l.marks))
