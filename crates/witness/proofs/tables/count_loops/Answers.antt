use native.Mathlib.Omega.{arith}
use Rattle.witness.proofs.Sizes.{counted_begin, counted_two, counted_all}
use Rattle.witness.proofs.tables.count_loops.Goals as goal

pub loop-k-init : goal.loop-k-init
loop-k-init c = (omega arith, counted_begin)

pub loop-k-preserved : goal.loop-k-preserved
loop-k-preserved c =
    let l = c.loop-k in
    let i = l.invariant in (
      omega (arith, c.sizes-loops.ensures.1, i.0),
      counted_two (omega (arith, c.requires.1, c.loop-k-test.true)) c.sizes-loops.ensures.0 i.1,
    )

pub returns : goal.returns
returns c = λ b labels p B T. counted_all p B T c.loop-k.k c.requires.2 (omega arith) c.loop-k.invariant.1
