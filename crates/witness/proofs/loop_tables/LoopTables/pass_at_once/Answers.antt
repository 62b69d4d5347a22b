use mathlib.Core.Bool.{false≢true}
use Rattle.chart.proofs.Checks.{well_formed}
use Rattle.witness.proofs.Loops.{entries_return, vertex_passes_lem}
use Rattle.witness.proofs.loop_tables.LoopTables.pass_at_once.Goals as goal

pub returns-then-not-below_level : goal.returns-then-not-below_level
returns-then-not-below_level c = λ e. absurd (false≢true e)

pub row_or_empty-requires : goal.row_or_empty-requires
row_or_empty-requires c = c.requires.0.of_entries.whole

pub returns-then-is_empty : goal.returns-then-is_empty
returns-then-is_empty c = λ e.
    let (T, low, at, few, M, R) = c.requires in
    let l = c.args.self.now.labelling in
    let w = well_formed _ l.chart.now.passed in
    let d = rw c.row_or_empty.ensures at c.difference-others.ensures in
    let each = entries_return w T at M d (c.is_empty.ensures.0 c.if-is_empty.true) in
    let below = c.below_level.ensures c.if-not-below_level.false in
    vertex_passes_lem w T at M d low few l.bytes (_, R, below) (λ z. absurd (false≢true z)) each

pub returns : goal.returns
returns c = λ e.
    let (T, low, at, few, M, R) = c.requires in
    let l = c.args.self.now.labelling in
    let w = well_formed _ l.chart.now.passed in
    let d = rw c.row_or_empty.ensures at c.difference-others.ensures in
    let below = c.below_level.ensures c.if-not-below_level.false in
    vertex_passes_lem w T at M d low few l.bytes (_, R, below) c.reaches_below-all.ensures (c.entries_pass.ensures e)
