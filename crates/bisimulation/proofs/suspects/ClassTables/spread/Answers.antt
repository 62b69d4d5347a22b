use native.Mathlib.Omega.{arith}
use mathlib.Core.Path.{◌≡◌}
use Rattle.bisimulation.proofs.SuspectLaws.{rows_in_none, rows_in_more}
use Rattle.bisimulation.proofs.suspects.ClassTables.spread.Goals as goal

pub loop-c-init : goal.loop-c-init
loop-c-init c =
    let s = c.args.self.now in (c.spread_one.ensures.0, rows_in_none s.relation.now.bytes.now s.class.now)

pub loop-c-preserved : goal.loop-c-preserved
loop-c-preserved c =
    let s = c.args.self.now in
    let S = c.spread_one-in-loop-c.ensures in
    (S.0, rows_in_more s.relation.now.bytes.now s.class.now _ c.loop-c.invariant.1 S.1 c.union-related.ensures)

pub returns : goal.returns
returns c =
    let i = c.loop-c.invariant in
    let e : c.loop-c.c ≡ c.args.self.now.relation.now.rows = omega (arith, c.loop-c.auto.c-end, c.requires.0, c.loop-c-test.false) in
    (rw e at i.0, rw e at i.1)
