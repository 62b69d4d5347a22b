use Rattle.std.proofs.Common.{arith, ◌<◌}
use Rattle.bits.proofs.Words.{bit_worth}
use Rattle.bits.proofs.Ones.{ones_none, ones_more, ones_all}
use Rattle.bits.proofs.sets.fill_ones.Goals as goal

pub loop-k-init : goal.loop-k-init
loop-k-init c = rw c.requires ones_none

pub loop-k-preserved : goal.loop-k-preserved
loop-k-preserved c =
    let l = c.loop-k in
    let h : l.k < 64 = omega arith in
    ones_more l.invariant h (bit_worth l.k h)

pub returns : goal.returns
returns c = ones_all c.loop-k.invariant (omega arith)
