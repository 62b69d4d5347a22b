use Rattle.std.proofs.Common.{arith, ◌≡◌}
use Rattle.bits.proofs.Gains.{union_none, union_more}
use Rattle.bits.proofs.tables.union_of.Goals as goal

pub loop-v-init : goal.loop-v-init
loop-v-init c = union_none _ c.empty-all.ensures

pub loop-v-preserved : goal.loop-v-preserved
loop-v-preserved c = union_more _ _ c.loop-v.invariant c.row.ensures c.union-all.ensures

pub returns : goal.returns
returns c = let e : c.loop-v.v ≡ c.args.n = omega arith in rw e at c.loop-v.invariant
