use borrow.Author.Rules.{rules}
use Rattle.bits.proofs.Members.{rest_low, rest_high}
use Rattle.bits.proofs.sets.Set.without_lowest.Goals as goal

pub returns-then-self-ne0 : goal.returns-then-self-ne0
returns-then-self-ne0 c = rest_low c.args.self c.if-self-ne0.true (search rules) c.without_lowest.ensures

pub returns : goal.returns
returns c =
    rest_high c.args.self c.if-self-ne0.false c.requires c.without_lowest-2.ensures
