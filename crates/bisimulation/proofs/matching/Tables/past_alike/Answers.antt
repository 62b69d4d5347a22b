use native.Mathlib.Omega.{arith}
use Rattle.chart.proofs.Checks.{well_formed}
use Rattle.bisimulation.proofs.RunLaws.{alike_one, alike_up_to}
use Prim.Native.Nat.{◌+◌, ◌-◌}
use Rattle.bisimulation.proofs.matching.Tables.past_alike.Goals as goal

pub returns-then-end-w : goal.returns-then-end-w
returns-then-end-w c = alike_one _ _ c.requires.0

pub returns-then-b-i : goal.returns-then-b-i
returns-then-b-i c = alike_one _ _ c.requires.0

pub returns : goal.returns
returns c = alike_one _ _ c.requires.0

pub returns-then-goes_before : goal.returns-then-goes_before
returns-then-goes_before c =
    let p = c.requires in
    let s = c.args.self.now in
    let k = s.chart.now in
    let (a, t) = c.goes_before.ensures c.if-goes_before.true in
    alike_up_to k.bytes (well_formed _ k.passed) p.1 p.2 (c.args.b - 1) (omega (arith, p.0))
    (omega (arith, p.0)) a s.runs (rw c.target-w.ensures.0 at t) p.0 (omega arith)

pub returns-then-goes_before-2 : goal.returns-then-goes_before-2
returns-then-goes_before-2 c =
    let p = c.requires in
    let s = c.args.self.now in
    let k = s.chart.now in
    let (a, t) = c.goes_before-2.ensures c.if-goes_before-2.true in
    alike_up_to k.bytes (well_formed _ k.passed) p.1 p.2 (c.args.i + 8) (omega arith)
    (omega (arith, c.if-b-i.false)) a s.runs (rw c.target-w.ensures.0 at t) (omega arith) (omega arith)
