use Prim.Native.Nat.{ℕ}
use lib.ListN.{get_or}
use borrow.Author.Count.{below_more}
use Rattle.bisimulation.specs.Small.{RowPassesBy}
use Rattle.bisimulation.proofs.steps.Steps.small_passes.Goals as goal

pub loop-u-preserved : goal.loop-u-preserved
loop-u-preserved c =
    let s = c.args.self.now in
    let k = c.args.chart.now in
    below_more
    (λ (x : ℕ). RowPassesBy s.keys.now s.relation.bytes.now k.body.now k.begins.now (get_or s.words.now x 0) x)
    c.loop-u.u c.loop-u.invariant (c.row_passes.ensures c.if-not-row_passes.false)
