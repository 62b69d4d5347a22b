use Prim.Native.Nat.{◌+◌}
use native.Mathlib.Omega.{arith}
use Rattle.witness.proofs.Runs.{took_none, took_more}
use Rattle.witness.proofs.tables.Runs.take_eights.Goals as goal

pub loop-i-init : goal.loop-i-init
loop-i-init c = took_none c.requires.0

pub overflow_add-i : goal.overflow_add-i
overflow_add-i c = omega (arith, c.loop-i.invariant.to, c.requires.1, c.args.self.now.formed.header.count_high)

pub eight_have-requires : goal.eight_have-requires
eight_have-requires c = (omega (arith, c.requires.1, c.args.self.now.long, c.loop-i-test.true), c.requires.2)

pub returns-then-not-eight_have : goal.returns-then-not-eight_have
returns-then-not-eight_have c = c.loop-i.invariant

pub overflow_add-i-in-loop-i : goal.overflow_add-i-in-loop-i
overflow_add-i-in-loop-i c = omega (arith, c.loop-i.invariant.to, c.requires.1, c.args.self.now.formed.header.count_high)

pub loop-i-preserved : goal.loop-i-preserved
loop-i-preserved c =
    let z = c.eight_have.ensures c.if-not-eight_have.false in
    took_more (c.loop-i.i + 8) c.loop-i.invariant (omega arith) (omega arith) z c.with_eight-all.ensures

pub returns : goal.returns
returns c = c.loop-i.invariant
