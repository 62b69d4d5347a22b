use native.Mathlib.Omega.{arith}
use Rattle.bits.proofs.Members.{size_few}
use Rattle.theory.proofs.Tests.{not_so}
use Rattle.reach.proofs.Settling.{round_gains}
use Rattle.reach.proofs.settle.Goals as goal

pub loop-all-smaller : goal.loop-all-smaller
loop-all-smaller c =
    let some = not_so c.is_empty-in-loop-all.ensures c.if-is_empty.false in
    omega (arith, size_few c.settle_round-more.result, round_gains c.settle_round-more.ensures.more c.difference.ensures some)
