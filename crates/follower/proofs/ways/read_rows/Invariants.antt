use Rattle.follower.proofs.Layers.{Reading}
use Rattle.follower.proofs.ways.read_rows.Given as goal

abbrev pub invariant-loop-u : goal.invariant-loop-u
invariant-loop-u l = Reading l.chart.body.now l.fn.layer l.u-iterator.left l.initial.rows l.all l.rows
