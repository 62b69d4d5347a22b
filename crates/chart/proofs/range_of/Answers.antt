use native.Mathlib.Omega.{arith}
use Rattle.chart.proofs.Checks.{well_formed}
use Rattle.chart.proofs.Order.{range_high}
use Rattle.chart.proofs.range_of.Goals as goal

pub count-n-requires : goal.count-n-requires
count-n-requires c = (well_formed _ c.requires).header.long

pub byte-requires : goal.byte-requires
byte-requires c = let W = well_formed _ c.requires in omega (arith, W.header.long)

pub returns-then-v-byte : goal.returns-then-v-byte
returns-then-v-byte c = range_high (well_formed _ c.requires) c.count-n.ensures.0 (omega arith)

pub returns : goal.returns
returns c =
    let n = c.count-n.ensures.0 in
    record { begins = rw n at c.lower-from.ensures; ends = rw n at c.lower-to.ensures }
