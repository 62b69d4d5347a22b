use Rattle.follower.proofs.Layers.{Layering}
use Rattle.follower.proofs.ways.layers_from.Given as goal

abbrev pub invariant-loop-k : goal.invariant-loop-k
invariant-loop-k l = Layering l.chart.body.now l.fn.set l.k l.layers l.rows l.layer l.seen
