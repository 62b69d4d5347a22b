use Rattle.follower.proofs.Walks.{onward_one, onward_more}
use Rattle.follower.proofs.ways.onward.Goals as goal

pub without_lowest-requires : goal.without_lowest-requires
without_lowest-requires c = λ e. e c.requires.to c.requires.member

pub returns-then-is_empty : goal.returns-then-is_empty
returns-then-is_empty c = onward_one c.without_lowest.ensures (c.is_empty.ensures.0 c.if-is_empty.true) c.requires

pub returns : goal.returns
returns c = onward_more c.image.ensures c.intersection.ensures
