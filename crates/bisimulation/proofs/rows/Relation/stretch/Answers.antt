use native.Mathlib.Omega.{arith}
use mathlib.Core.Path.{◌≡◌}
use Rattle.bisimulation.specs.Suspects.{SameRow}
use Rattle.bisimulation.proofs.TableLaws.{between_more, same_itself}
use Rattle.bisimulation.proofs.rows.Relation.stretch.Goals as goal

pub loop-b-init : goal.loop-b-init
loop-b-init c = same_itself _ _

pub loop-b-preserved : goal.loop-b-preserved
loop-b-preserved c = between_more (SameRow c.args.self.now.bytes.now c.args.u) _ c.loop-b.invariant (c.same.ensures c.if-not-same.false)

pub returns : goal.returns
returns c =
    let e : c.loop-b.b ≡ c.args.self.now.rows = omega (arith, c.loop-b.auto.b-end, c.loop-b-test.false, c.requires) in
    record { some = c.requires; within = omega arith; each = rw e at c.loop-b.invariant }
