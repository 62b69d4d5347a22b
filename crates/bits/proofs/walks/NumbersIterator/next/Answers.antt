use Rattle.std.proofs.Common.{length, rules, ap}
use Rattle.bits.proofs.Listed.{members_none, low_next, high_next}
use Rattle.bits.proofs.Members.{words_zero}
use Rattle.bits.proofs.walks.NumbersIterator.next.Goals as goal

pub returns-then-self-ne0-clause-steps : goal.returns-then-self-ne0-clause-steps
returns-then-self-ne0-clause-steps c =
    low_next c.args.self.now.left c.if-self-ne0.true (search rules) c.lowest_bit-k.ensures c.without_lowest-self.ensures

pub returns-then-self-ne0-clause-goes : goal.returns-then-self-ne0-clause-goes
returns-then-self-ne0-clause-goes c = let e = ap length (returns-then-self-ne0-clause-steps c) in search rules

pub returns-then-self-ne0-2-clause-steps : goal.returns-then-self-ne0-2-clause-steps
returns-then-self-ne0-2-clause-steps c =
    high_next c.args.self.now.left c.if-self-ne0.false c.lowest_bit-k-then-self-ne0-2.ensures c.without_lowest-self-then-self-ne0-2.ensures

pub returns-then-self-ne0-2-clause-goes : goal.returns-then-self-ne0-2-clause-goes
returns-then-self-ne0-2-clause-goes c = let e = ap length (returns-then-self-ne0-2-clause-steps c) in search rules

pub returns-clause-steps : goal.returns-clause-steps
returns-clause-steps c =
    let e = members_none _ (words_zero _ c.if-self-ne0.false c.if-self-ne0-2.false) in (e, e)
