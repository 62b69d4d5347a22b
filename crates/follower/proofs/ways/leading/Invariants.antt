use Rattle.bits.specs.Sets.{Members}
use Rattle.bits.proofs.Visits.{FromPast}
use Rattle.follower.proofs.Narrows.{Stays}
use Rattle.follower.proofs.ways.leading.Given as goal

abbrev pub invariant-loop-u : goal.invariant-loop-u
invariant-loop-u l = Members (FromPast (Stays l.rows l.aim) l.fn.layer l.u-iterator.left) l.kept
