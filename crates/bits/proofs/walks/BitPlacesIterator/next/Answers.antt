use Rattle.std.proofs.Common.{length, rules, ap}
use Rattle.bits.proofs.Listed.{places_none, places_next}
use Rattle.bits.proofs.walks.BitPlacesIterator.next.Goals as goal

pub returns-then-self-eq0-clause-steps : goal.returns-then-self-eq0-clause-steps
returns-then-self-eq0-clause-steps c = let e = places_none _ c.if-self-eq0.true in (e, e)

pub returns-clause-steps : goal.returns-clause-steps
returns-clause-steps c = let L = c.lowest_bit-k.ensures in places_next L (c.without_lowest-self.ensures _ L)

pub returns-clause-goes : goal.returns-clause-goes
returns-clause-goes c = let e = ap length (returns-clause-steps c) in search rules
