use mathlib.Core.Path.{◌≡◌}
use native.Mathlib.Omega.{arith}
use Rattle.witness.proofs.Runs.{target_of, took_none, took_one, levels_none, levels_one}
use Rattle.witness.proofs.tables.Runs.take_each_entry.Goals as goal

pub loop-i-init : goal.loop-i-init
loop-i-init c = (took_none c.requires.0, levels_none c.args.self.now.labels.now)

pub returns-then-label-eq0 : goal.returns-then-label-eq0
returns-then-label-eq0 c =
    let i = c.loop-i.invariant in
    (i.0, λ h. omega (arith, c.byte-label.ensures.0, c.if-label-eq0.true), i.1)

pub insert-requires : goal.insert-requires
insert-requires c =
    let p = c.requires in (
      omega (
        arith,
        p.3 c.loop-i.i (omega (arith, p.1, c.args.self.now.long, c.loop-i-test.true)),
        c.loop-i.invariant.1.long,
        c.byte-label.ensures.0,
      ),
      p.2,
    )

pub with_by-all-requires : goal.with_by-all-requires
with_by-all-requires c = target_of c.args.self.now c.requires.1 c.loop-i-test.true c.byte.ensures.0

pub loop-i-preserved : goal.loop-i-preserved
loop-i-preserved c =
    let i = c.loop-i.invariant in
    let z = c.byte-label.ensures.0 in
    let n = c.if-label-eq0.false in
    let T = took_one i.0 c.loop-i-test.true (omega (arith, z, n)) c.byte.ensures.0 c.with_by-all.ensures in
    (T, levels_one c.args.self.now.labels.now c.loop-i.i i.0.from z i.1 c.insert.ensures)

pub shape_of-entered : goal.shape_of-entered
shape_of-entered c = c.loop-i.invariant.1.long

pub returns : goal.returns
returns c =
    let i = c.loop-i.invariant in
    let e : c.loop-i.i ≡ c.args.end = omega (arith, c.requires.0) in
    (rw e at i.0, λ h. absurd (omega (arith, h)), rw e at i.1)
