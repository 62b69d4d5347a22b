use Rattle.chart.proofs.Checks.{well_formed}
use Rattle.chart.proofs.Chart.count.Goals as goal

pub count-requires : goal.count-requires
count-requires c = (well_formed _ c.args.self.now.passed).header.long

pub returns : goal.returns
returns c = let e = c.count.ensures.0 in (e, rw e (well_formed _ c.args.self.now.passed).header.count_high)
