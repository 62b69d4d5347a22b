use native.Mathlib.Omega.{arith}
use mathlib.Core.Path.{◌≡◌, refl}
use Rattle.bisimulation.specs.Suspects.{SameWord}
use Rattle.bisimulation.proofs.TableLaws.{between_more}
use Rattle.bisimulation.proofs.steps.Steps.stretch.Goals as goal

pub loop-b-init : goal.loop-b-init
loop-b-init c = λ j l m. let e : j ≡ c.args.u = omega arith in rw e refl

pub loop-b-preserved : goal.loop-b-preserved
loop-b-preserved c = between_more (SameWord c.args.self.now.words.now c.args.u) _ c.loop-b.invariant c.if-self-b.false

pub returns : goal.returns
returns c =
    let e : c.loop-b.b ≡ c.args.self.now.relation.rows = omega (arith, c.loop-b.auto.b-end, c.loop-b-test.false, c.requires) in
    record { some = c.requires; within = omega arith; each = rw e at c.loop-b.invariant }
