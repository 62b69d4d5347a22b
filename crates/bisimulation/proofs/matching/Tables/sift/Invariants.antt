use Rattle.bisimulation.proofs.SuspectLaws.{Sifting}
use Rattle.bisimulation.proofs.matching.Tables.sift.Given as goal

abbrev pub invariant-loop-v : goal.invariant-loop-v
invariant-loop-v l = Sifting l.self.at.now.into l.self.acting.now l.self.at.now.all l.self.at.now.any l.self.chart.now.body.now l.self.chart.now.begins.now
    l.fn.related l.fn.apart l.v-iterator.left l.found
