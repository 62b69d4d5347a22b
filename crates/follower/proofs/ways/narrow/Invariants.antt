use Rattle.follower.proofs.Narrows.{Narrowing}
use Rattle.follower.proofs.ways.narrow.Given as goal

abbrev pub invariant-loop-k : goal.invariant-loop-k
invariant-loop-k l = Narrowing l.rows l.d l.initial.layers l.k l.aim l.layers
