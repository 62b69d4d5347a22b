use Prim.Native.Nat.{◌+◌}
use mathlib.Core.Path.{◌≡◌}
use native.Mathlib.Omega.{arith}
use Rattle.witness.proofs.Runs.{target_of, targets_none, targets_one, targets_then}
use Rattle.witness.proofs.tables.Runs.with_eight.Goals as goal

pub loop-i-init : goal.loop-i-init
loop-i-init c = targets_none

pub with_by-all-requires : goal.with_by-all-requires
with_by-all-requires c = target_of c.args.self.now c.requires c.loop-i-test.true c.byte.ensures.0

pub loop-i-preserved : goal.loop-i-preserved
loop-i-preserved c =
    let l = c.loop-i in
    targets_then l.auto.i (omega arith) l.invariant (targets_one l.i c.byte.ensures.0 c.with_by-all.ensures)

pub returns : goal.returns
returns c =
    let l = c.loop-i in
    let e : l.i ≡ c.args.at + 8 = omega arith in
    rw e at l.invariant
