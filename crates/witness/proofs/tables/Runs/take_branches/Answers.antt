use mathlib.Core.Path.{◌≡◌}
use native.Mathlib.Omega.{arith}
use Rattle.witness.proofs.Runs.{target_of, took_none, took_then, took_one}
use Rattle.witness.proofs.tables.Runs.take_branches.Goals as goal

pub loop-i-init : goal.loop-i-init
loop-i-init c = took_none c.take_eights-first.ensures.to

pub returns-then-byte-ne0 : goal.returns-then-byte-ne0
returns-then-byte-ne0 c =
    (took_then c.take_eights-first.ensures c.loop-i.invariant, λ h. omega (arith, c.byte.ensures.0, c.if-byte-ne0.true))

pub with_by-all-requires : goal.with_by-all-requires
with_by-all-requires c = target_of c.args.self.now c.requires.1 c.loop-i-test.true c.byte-in-loop-i.ensures.0

pub loop-i-preserved : goal.loop-i-preserved
loop-i-preserved c =
    let z = c.byte.ensures.0 in
    let n = c.if-byte-ne0.false in
    took_one c.loop-i.invariant c.loop-i-test.true (omega (arith, z, n)) c.byte-in-loop-i.ensures.0 c.with_by-all.ensures

pub returns : goal.returns
returns c =
    let T = c.take_eights-first.ensures in
    let e : c.loop-i.i ≡ c.args.end = omega (arith, T.to) in
    (took_then T (rw e at c.loop-i.invariant), λ h. absurd (omega (arith, h)))
