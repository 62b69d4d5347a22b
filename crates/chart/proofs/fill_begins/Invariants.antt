use Rattle.chart.proofs.Order.{BeginsBelow}
use Rattle.chart.proofs.fill_begins.Given as goal

abbrev pub invariant-loop-v : goal.invariant-loop-v
invariant-loop-v l = BeginsBelow l.body l.n l.begins l.at l.v
