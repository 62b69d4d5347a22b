use native.Mathlib.Omega.{arith}
use borrow.Author.Rules.{rules}
use Rattle.bisimulation.proofs.ClassLaws.{join_none, join_more, join_end}
use Rattle.bisimulation.proofs.classes.Classified.join_rows.Goals as goal

pub loop-u-init : goal.loop-u-init
loop-u-init c = join_none (search rules) (search rules)

pub saturated-requires : goal.saturated-requires
saturated-requires c = c.args.self.now.steps.now.stepped.known _

pub loop-u-preserved : goal.loop-u-preserved
loop-u-preserved c =
    let s = c.args.self.now in
    join_more c.bit_and.result c.bit_or.result c.loop-u.invariant
    (s.classed.class_few c.loop-u.u (omega (arith, s.steps.now.relation.few, c.loop-u-test.true))) c.saturated.ensures
    c.bit_and.ensures c.bit_or.ensures

pub returns : goal.returns
returns c = join_end c.loop-u.invariant c.loop-u-test.false
