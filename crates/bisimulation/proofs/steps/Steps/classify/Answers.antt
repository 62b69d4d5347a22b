use native.Mathlib.Omega.{arith}
use mathlib.Core.Path.{◌≡◌}
use Prim.Native.Nat.{ℕ, ◌/◌}
use lib.ListN.{get_or}
use Rattle.bisimulation.specs.Classes.{class_at}
use Rattle.bisimulation.proofs.ClassLaws.{sorted_more}
use Rattle.bisimulation.proofs.steps.Steps.classify.Goals as goal

pub bounds-leading-c : goal.bounds-leading-c
bounds-leading-c c =
    let C = c.requires.0 in omega (arith, C.class_few _ (C.targets _ c.loop-k-test.true), c.loop-k.invariant.0.long)

pub bounds-acting-a : goal.bounds-acting-a
bounds-acting-a c = omega (arith, c.requires.0.fit _ c.loop-k-test.true, c.loop-k.invariant.1.long)

pub loop-k-preserved : goal.loop-k-preserved
loop-k-preserved c =
    let i = c.loop-k.invariant in
    let s = c.args.self.now in
    let C = c.requires.0 in (
      sorted_more (class_at s.keys.now c.args.class.now) i.0 (C.class_few _ (C.targets _ c.loop-k-test.true))
          c.with_bit.ensures,
      sorted_more (λ (j : ℕ). get_or s.keys.now j 0 / 256) i.1 (omega (arith, C.fit _ c.loop-k-test.true))
          c.with_bit-in-loop-k.ensures,
    )

pub returns : goal.returns
returns c =
    let i = c.loop-k.invariant in
    let e : c.loop-k.k ≡ c.args.self.now.count = omega (arith, c.loop-k.auto.k-end, c.loop-k-test.false) in
    (rw e at i.0, rw e at i.1)
