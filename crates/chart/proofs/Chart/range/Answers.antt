use Rattle.chart.proofs.Order.{begin_order, begin_high}
use Rattle.chart.proofs.Chart.range.Goals as goal

pub returns-clause-within : goal.returns-clause-within
returns-clause-within c =
    let b = c.args.self.now.begun in
    (begin_order b _ c.requires, begin_high b _ c.requires)
