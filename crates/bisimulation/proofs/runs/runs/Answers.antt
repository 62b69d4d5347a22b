use native.Mathlib.Omega.{arith}
use mathlib.Core.Path.{◌≡◌, subst}
use Prim.Native.Nat.{ℕ, ◌+◌, ◌-◌, ◌≤◌}
use Rattle.bisimulation.specs.Runs.{SameWords}
use Rattle.bisimulation.proofs.RunLaws.{run_none, runs_none, runs_more}
use Rattle.bisimulation.proofs.runs.runs.Goals as goal

pub returns-then-not-worthwhile : goal.returns-then-not-worthwhile
returns-then-not-worthwhile c = rw c.requires (runs_none _)

pub loop-w-init : goal.loop-w-init
loop-w-init c = (omega arith, c.vertices-n.ensures.2, run_none _ _, rw c.requires (runs_none _))

pub run_end-end-requires : goal.run_end-end-requires
run_end-end-requires c =
    let s = c.loop-w in
    let i = s.invariant in
    let e : s.w ≡ s.w - 1 + 1 = omega (arith, c.loop-w-test.true) in
    (omega (arith, i.0, c.loop-w-test.true), i.1, subst (λ (x : ℕ). SameWords c.args.into.now x s.end) e i.2)

pub loop-w-preserved : goal.loop-w-preserved
loop-w-preserved c =
    let s = c.loop-w in
    let i = s.invariant in
    let E = c.run_end-end.ensures in
    let l : s.w - 1 ≤ 127 = omega (arith, i.0, i.1, c.loop-w-test.true) in
    (omega (arith, E.0), E.1, E.2, runs_more i.3 (omega arith) E.1 E.2)
