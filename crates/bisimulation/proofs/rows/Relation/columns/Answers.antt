use native.Mathlib.Omega.{arith}
use mathlib.Core.Path.{◌≡◌}
use Rattle.bisimulation.proofs.TableLaws.{columns_none, columns_more, columns_all}
use Rattle.bisimulation.proofs.rows.Relation.columns.Goals as goal

pub loop-u-init : goal.loop-u-init
loop-u-init c = (omega arith, rw c.requires (columns_none _ _))

pub loop-u-preserved : goal.loop-u-preserved
loop-u-preserved c =
    let s = c.stretch-b.ensures in (
      s.within,
      columns_more c.args.self.now.bytes.now c.args.among _ c.loop-u.invariant.1 s c.row.ensures
          c.intersection-vertices.ensures c.between.ensures c.spread_over.ensures,
    )

pub returns : goal.returns
returns c =
    let i = c.loop-u.invariant in
    let e : c.loop-u.u ≡ c.args.self.now.rows = omega (arith, i.0, c.loop-u-test.false) in
    columns_all _ _ c.args.self.now.whole (rw e at i.1)
