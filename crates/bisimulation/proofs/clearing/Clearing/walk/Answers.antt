use native.Mathlib.Omega.{arith}
use lib.ListN.{get_or}
use Rattle.chart.proofs.Order.{begin_high}
use Rattle.bisimulation.proofs.RunLaws.{one_source, source_from}
use Rattle.bisimulation.proofs.ClearLaws.{walk_none, walk_first, walk_same, walk_more, walk_run, walk_all}
use Rattle.bisimulation.proofs.clearing.Clearing.walk.Goals.{then-next-last, else-next-last}
use Rattle.bisimulation.proofs.clearing.Clearing.walk.Goals as goal

pub returns-then-a-b : goal.returns-then-a-b
returns-then-a-b c = (walk_none _ _ _ _ _ c.if-a-b.true, c.requires.1)

pub matching-matched-requires : goal.matching-matched-requires
matching-matched-requires c = omega (arith, begin_high c.args.self.now.tables.now.chart.now.begun _ c.requires.0, c.if-a-b.false)

pub past_alike-i-requires : goal.past_alike-i-requires
past_alike-i-requires c = let B = c.args.self.now.tables.now.chart.now.begun in (omega (arith, c.if-a-b.false), begin_high B _ c.requires.0, one_source B _ c.requires.0)

pub loop-i-init : goal.loop-i-init
loop-i-init c =
    let s = c.args.self.now in
    let t = s.tables.now in
    let E = c.past_alike-i.ensures in (
      E.within,
      walk_run
          (walk_first t.at.now.into t.acting.now s.users.now t.chart.now.body.now (get_or t.chart.now.begins.now c.args.v 0) c.matching-matched.result c.matching-matched.ensures
          c.rows_with.ensures.rows c.intersection-able.ensures)
          (omega arith) E,
      c.rows_with.ensures.known,
    )

pub past_alike-i-requires-in-loop-i : goal.past_alike-i-requires-in-loop-i
past_alike-i-requires-in-loop-i c =
    let B = c.args.self.now.tables.now.chart.now.begun in
    (c.loop-i-test.true, begin_high B _ c.requires.0, source_from (one_source B _ c.requires.0) c.loop-i.invariant.1.from)

pub matching-next-requires : goal.matching-next-requires
matching-next-requires c = omega (arith, begin_high c.args.self.now.tables.now.chart.now.begun _ c.requires.0, c.loop-i-test.true)

pub loop-i-preserved : goal.loop-i-preserved
loop-i-preserved c =
    let i = c.loop-i.invariant in
    let n = c.matching-next in
    let E = c.past_alike-i-in-loop-i.ensures in (
      E.within,
      walk_run
          (elim c.if-next-last.branch [
            | then-next-last w ↦
                rw (w.matched-is, w.last-is, w.able-is) (walk_more i.1 n.result n.ensures w.bit_or-matched.result w.bit_or-matched.ensures w.rows_with-then-next-last.ensures.rows w.intersection-able-then-next-last.ensures)
            | else-next-last w ↦
                rw (w.matched-is, w.last-is, w.able-is) (walk_same i.1 n.result n.ensures w.if-next-last.false)
          ])
          i.1.from E,
      elim c.if-next-last.branch [
        | then-next-last w ↦ rw w.known-is w.rows_with-then-next-last.ensures.known
        | else-next-last w ↦ rw w.known-is i.2
      ],
    )

pub returns : goal.returns
returns c =
    let i = c.loop-i.invariant in
    (walk_all i.1 c.intersection-able.ensures c.loop-i-test.false i.0, i.2)
