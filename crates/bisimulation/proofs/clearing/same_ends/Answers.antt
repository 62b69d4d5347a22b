use Rattle.bisimulation.proofs.ClearLaws.{ends_zero, ends_other}
use Rattle.bisimulation.proofs.clearing.same_ends.Goals as goal

pub returns-then-v-eq0 : goal.returns-then-v-eq0
returns-then-v-eq0 c = ends_zero c.if-v-eq0.true c.empty.ensures c.with.ensures c.intersection.ensures

pub returns : goal.returns
returns c = ends_other c.if-v-eq0.false c.without.ensures
