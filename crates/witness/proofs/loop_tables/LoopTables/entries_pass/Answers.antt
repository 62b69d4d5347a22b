use mathlib.Core.Path.{◌≡◌}
use mathlib.Core.Bool.{false≢true}
use Prim.Native.Nat.{◌+◌}
use native.Mathlib.Omega.{arith}
use lib.ListN.{get_or}
use Rattle.chart.proofs.Checks.{well_formed}
use Rattle.chart.proofs.Order.{begin_order, begin_high}
use Rattle.witness.proofs.Seen.{leaves_v}
use Rattle.witness.proofs.Entries.{marking_none, marking_more, entries_passed}
use Rattle.witness.proofs.loop_tables.LoopTables.entries_pass.Goals as goal

pub loop-i-init : goal.loop-i-init
loop-i-init c = marking_none

pub byte-w-requires : goal.byte-w-requires
byte-w-requires c =
    let chart = c.args.self.now.labelling.chart.now in
    omega (arith, c.loop-i-test.true, begin_high chart.begun _ c.requires, (well_formed _ chart.passed).header.whole)

pub byte-requires : goal.byte-requires
byte-requires c =
    let l = c.args.self.now.labelling in
    omega (arith, c.loop-i-test.true, begin_high l.chart.now.begun _ c.requires, l.long)

pub entry_passes-requires : goal.entry_passes-requires
entry_passes-requires c =
    let l = c.loop-i in
    let s = c.args.self.now in
    let chart = s.labelling.chart.now in
    let W = well_formed _ chart.passed in
    let below = begin_high chart.begun _ c.requires in
    let t = W.each l.i (omega (arith, below, c.loop-i-test.true)) in
    let w = c.byte-w.ensures.0 in
    let b = c.byte.ensures in (
      omega (arith, w, t.to_high, s.all, s.branches.room),
      omega (arith, w, t.to_high, W.header.vertices_high),
      omega (arith, s.levels_fit l.i (omega (arith, s.labelling.long, below, c.loop-i-test.true)), b.0),
      b.1,
      c.requires,
      l.invariant.long,
    )

pub returns-then-not-entry_passes : goal.returns-then-not-entry_passes
returns-then-not-entry_passes c = λ e. absurd (false≢true e)

pub loop-i-preserved : goal.loop-i-preserved
loop-i-preserved c =
    let l = c.loop-i in
    let R = c.args.self.now.labelling.chart.now.begun in
    let u = leaves_v R _ c.requires l.i l.auto.i c.loop-i-test.true in
    marking_more l.i l.auto.i (omega (arith, begin_high R _ c.requires, c.loop-i-test.true)) u c.byte.ensures.0 c.byte-w.ensures.0
    c.if-not-entry_passes.false l.invariant c.entry_passes.ensures

pub all_return-requires : goal.all_return-requires
all_return-requires c = c.loop-i.invariant.long

pub returns : goal.returns
returns c = λ e.
    let l = c.loop-i in
    let s = c.args.self.now.labelling in
    let R = s.chart.now.begun in
    let z : l.i ≡ get_or s.chart.now.begins.now (c.args.v + 1) 0 = omega (arith, begin_order R _ c.requires) in
    entries_passed R c.requires z s.bytes l.invariant (c.all_return.ensures e)
