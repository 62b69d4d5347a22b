use Rattle.std.proofs.Common.{arith}
use Rattle.bits.proofs.Highest.{highest_none, highest_more, highest_all}
use Rattle.bits.proofs.highest_byte.Goals as goal

pub loop-byte-init : goal.loop-byte-init
loop-byte-init c = (omega arith, highest_none _)

pub loop-byte-preserved : goal.loop-byte-preserved
loop-byte-preserved c = (omega (arith, c.max-top.type_inv), highest_more c.loop-byte.invariant.1 c.max-top.ensures)

pub returns : goal.returns
returns c =
    let (low, H) = c.loop-byte.invariant in
    rw c.from.ensures (low, highest_all H (omega arith))
