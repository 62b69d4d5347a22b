use borrow.Author.Rules.{rules}
use Rattle.bits.proofs.Members.{empty_test}
use Rattle.bits.proofs.sets.Set.is_empty.Goals as goal

pub returns : goal.returns
returns c = empty_test c.args.self (search rules)
