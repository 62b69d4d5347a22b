use mathlib.Core.Path.{◌∙◌, ap}
use Prim.Native.Nat.{ℕ, ◌%◌}
use Rattle.bits.specs.Counts.{bits_below}
use Rattle.bits.proofs.Words.{bit_worth}
use Rattle.bits.proofs.Counts.{count_part}
use Rattle.bits.proofs.count_bits_below.Goals as goal

pub returns : goal.returns
returns c =
    (c.count_bits.ensures.0 ∙ ap (λ (y : ℕ). bits_below (c.args.x % y) 64) (bit_worth c.args.k c.requires) ∙ count_part c.args.x c.args.k c.requires, c.count_bits.ensures.1)
