use Rattle.follower.proofs.Walks.{Walking}
use Rattle.follower.proofs.ways.write_list.Given as goal

abbrev pub invariant-loop-i : goal.invariant-loop-i
invariant-loop-i l = Walking l.chart.body.now l.d l.layers l.initial.out l.i l.near l.out
