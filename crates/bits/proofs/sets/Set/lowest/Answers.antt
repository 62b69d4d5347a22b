use Rattle.bits.proofs.Members.{lowest_low, lowest_high, lowest_none}
use Rattle.bits.proofs.sets.Set.lowest.Goals as goal

pub returns-then-self-ne0 : goal.returns-then-self-ne0
returns-then-self-ne0 c = lowest_low c.args.self _ c.lowest_bit.ensures

pub returns-then-self-ne0-2 : goal.returns-then-self-ne0-2
returns-then-self-ne0-2 c = lowest_high c.args.self _ c.if-self-ne0.false c.lowest_bit-then-self-ne0-2.ensures

pub returns : goal.returns
returns c = lowest_none c.args.self c.if-self-ne0.false c.if-self-ne0-2.false
