use mathlib.Core.List.Memᴰ
use native.Mathlib.Omega.{arith}
use Rattle.bits.proofs.Given.{walk, given_has, given_below, all_given}
use Rattle.std.proofs.lemmas.Result.{err_from_is_err_and}
use Rattle.chart.proofs.Checks.{well_formed}
use Rattle.witness.proofs.Nested.{nothing_closed}
use Rattle.witness.proofs.Loops.{entries_low, has_loop, level_low, past_more, past_stop, past_end}
use Rattle.witness.proofs.loop_tables.LoopTables.check.Goals as goal

pub dead_ends-ends-requires : goal.dead_ends-ends-requires
dead_ends-ends-requires c = omega (arith, c.args.self.now.all, c.requires.branches_room)

pub row_or_empty-requires : goal.row_or_empty-requires
row_or_empty-requires c = c.requires.of_levels.whole

pub loop-v-init : goal.loop-v-init
loop-v-init c = (
  record { low = omega arith; closed = nothing_closed _ c.empty.ensures },
  λ w m g o. absurd (Memᴰ.not-nil g),
)

pub bounds-self-v : goal.bounds-self-v
bounds-self-v c =
    let K = walk c.into_iter-v-iterator.ensures.into_iter_gives c.members-v-items.ensures c.loop-v.yielded_by in
    omega (arith, (given_has K c.in-Some.ensures.steps).below)

pub row_or_empty-to-requires : goal.row_or_empty-to-requires
row_or_empty-to-requires c = c.requires.of_entries.whole

pub look_around-found-requires : goal.look_around-found-requires
look_around-found-requires c =
    let T = c.requires in
    let w = well_formed _ c.args.self.now.labelling.chart.now.passed in
    let K = walk c.into_iter-v-iterator.ensures.into_iter_gives c.members-v-items.ensures c.loop-v.yielded_by in (
      λ x g. omega (arith, entries_low _ w T.of_entries (rw c.row_or_empty-to.ensures at g), T.after_room),
      (given_has K c.in-Some.ensures.steps).below,
      c.loop-v.invariant.0,
    )

pub vertex_check-requires : goal.vertex_check-requires
vertex_check-requires c =
    let T = c.requires in
    let s = c.args.self.now.labelling in
    let K = walk c.into_iter-v-iterator.ensures.into_iter_gives c.members-v-items.ensures c.loop-v.yielded_by in
    let v = given_has K c.in-Some.ensures.steps in
    let e = c.from-level.ensures in (
      T,
      e,
      v.below,
      omega (arith, e, level_low (well_formed _ s.chart.now.passed) s.bytes T c.row_or_empty.ensures v),
      (_, c.dead_ends-ends.ensures, rw c.row_or_empty-to.ensures at c.look_around-found.ensures),
    )

pub returns-in_err-vertex_check : goal.returns-in_err-vertex_check
returns-in_err-vertex_check c =
    let s = c.args.self.now.labelling in
    let K = walk c.into_iter-v-iterator.ensures.into_iter_gives c.members-v-items.ensures c.loop-v.yielded_by in
    let e = err_from_is_err_and c.from_residual.result c.from_residual.ensures.1 in
    let h = c.in_err-vertex_check.was in
    rw (e.1, e.2) (rw h at (past_stop _ c.loop-v.invariant.1 (λ w m o. has_loop (well_formed _ s.chart.now.passed) s.bytes c.requires c.row_or_empty.ensures o)
    (given_below K _ c.in-Some.ensures.steps) h c.vertex_check.ensures))

pub loop-v-preserved : goal.loop-v-preserved
loop-v-preserved c = (
  c.look_around-found.ensures.left,
  past_more _ c.loop-v.invariant.1 c.in_ok-vertex_check.was c.vertex_check.ensures,
)

pub returns : goal.returns
returns c =
    let s = c.args.self.now.labelling in
    let K = walk c.into_iter-v-iterator.ensures.into_iter_gives c.members-v-items.ensures c.loop-v.yielded_by in
    past_end (λ w m o. has_loop (well_formed _ s.chart.now.passed) s.bytes c.requires c.row_or_empty.ensures o)
    (all_given K c.in-None.ensures.steps.0) c.loop-v.invariant.1
