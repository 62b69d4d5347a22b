-- Taking out a loop, by the numbers, proved.
use mathlib.Core.List.{List}
use Prim.Native.Nat.{ℕ}
use Rattle.report.specs.Numbers.{done_numbers}
use Rattle.bits.specs.Bits.{Bytes}
use Rattle.elimination.proofs.Removals.{removal_says}
use Rattle.promises.specs.Removal.{RemovalByNumbers}
use Rattle.promises.proofs.Numbered.{by_numbers}

pub removal_numbers : (b labels : List ℕ) → Bytes labels → (v l : ℕ) (standing : List ℕ)
    → RemovalByNumbers b labels v l standing
removal_numbers b labels B v l standing = by_numbers done_numbers (removal_says b labels v l standing B)
