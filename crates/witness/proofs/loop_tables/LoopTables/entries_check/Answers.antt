use mathlib.Core.Logic.{inl}
use mathlib.Core.Path.{refl, subst}
use native.Mathlib.Omega.{arith}
use Rattle.bits.proofs.Gains.{gained}
use Rattle.std.proofs.lemmas.Result.{err_from_is_err_and}
use Rattle.chart.proofs.Checks.{well_formed}
use Rattle.witness.specs.Given.{EntryLevels, EntryTargets}
use Rattle.witness.specs.Loops.{steps_of, LoopSaid}
use Rattle.witness.proofs.Given.{loop_next, loop_targets}
use Rattle.witness.proofs.Loops.{vertex_begin, vertex_more, vertex_stop, vertex_end}
use Rattle.witness.proofs.Loops.{bodies_closed, bodies_more, loop_given}
use Rattle.witness.proofs.loop_tables.LoopTables.entries_check.Goals as goal

pub loop-next-init : goal.loop-next-init
loop-next-init c =
    let g = c.sort_entries.ensures in
    let s = c.args.self.now in
    let t = gained {P = EntryLevels (steps_of s) c.args.v} 2 4 refl g.0 in
    let u = gained {P = EntryTargets (steps_of s) c.args.v} 256 512 refl g.1 in
    (t, u, vertex_begin c.empty-seen.ensures (loop_next t c.next_level-next.ensures.0), c.next_level-next.ensures.1)

pub row-to-requires : goal.row-to-requires
row-to-requires c =
    let (t, u, V, l) = rw c.in-Some.is at c.loop-next.invariant in
    omega (arith, u.long, l)

pub closure_from-seen-requires : goal.closure_from-seen-requires
closure_from-seen-requires c =
    let (t, u, V, l) = rw c.in-Some.is at c.loop-next.invariant in
    let (T, M, v) = c.requires in
    let w = well_formed _ c.args.self.now.labelling.chart.now.passed in
    (v, λ x y h e. inl (bodies_closed w T.of_branches V x y h e))

pub loop_check-requires : goal.loop_check-requires
loop_check-requires c =
    let (t, u, V, l) = rw c.in-Some.is at c.loop-next.invariant in
    (c.requires.2, l)

pub returns-in_err-loop_check : goal.returns-in_err-loop_check
returns-in_err-loop_check c =
    let (t, u, V, l) = rw c.in-Some.is at c.loop-next.invariant in
    let (T, M, v) = c.requires in
    let w = well_formed _ c.args.self.now.labelling.chart.now.passed in
    let to = loop_targets u V.low l c.row-to.ensures in
    let both = c.intersection.ensures in
    let given = loop_given w T v M V l to both c.closure_from-seen.ensures in
    let e = err_from_is_err_and c.from_residual.result c.from_residual.ensures.1 in
    let h = c.in_err-loop_check.was in
    rw (e.1, e.2) (rw h at (vertex_stop V h l (c.loop_check.ensures _ _ given)))

pub next_level-next-requires-in-Some : goal.next_level-next-requires-in-Some
next_level-next-requires-in-Some c =
    let (t, u, V, l) = rw c.in-Some.is at c.loop-next.invariant in
    (t.long, l)

pub loop-next-smaller : goal.loop-next-smaller
loop-next-smaller c =
    let (t, u, V, l) = rw c.in-Some.is at c.loop-next.invariant in
    rw c.in-Some.is (omega (arith, c.next_level-next-in-Some.ensures.0.from, l))

pub loop-next-preserved : goal.loop-next-preserved
loop-next-preserved c =
    let (t, u, V, l) = rw c.in-Some.is at c.loop-next.invariant in
    let (T, M, v) = c.requires in
    let w = well_formed _ c.args.self.now.labelling.chart.now.passed in
    let to = loop_targets u V.low l c.row-to.ensures in
    let both = c.intersection.ensures in
    let given = loop_given w T v M V l to both c.closure_from-seen.ensures in
    let passes = subst (LoopSaid _ _ _) c.in_ok-loop_check.was (c.loop_check.ensures _ _ given) in
    let more = bodies_more w T.of_branches V l to c.closure_from-seen.ensures in
    let N = c.next_level-next-in-Some.ensures in
    (t, u, vertex_more V more passes (loop_next t N.0), N.1)

pub returns : goal.returns
returns c =
    let (t, u, V, l) = rw c.in_default.is at c.loop-next.invariant in
    let s = c.args.self.now.labelling in
    vertex_end (well_formed _ s.chart.now.passed) s.bytes V (omega arith)
