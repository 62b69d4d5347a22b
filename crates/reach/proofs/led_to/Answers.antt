use borrow.Author.Rules.{rules}
use Rattle.reach.proofs.Searches.{led_to_lem}
use Rattle.reach.proofs.led_to.Goals as goal

pub returns : goal.returns
returns c =
    led_to_lem c.args.next.now c.args.set (search rules) c.united_from.ensures
    c.united_from-2.ensures c.union.ensures
