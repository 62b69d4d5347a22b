use Rattle.chart.proofs.Rows.{leaving_row}
use Rattle.chart.proofs.Chart.part.Goals as goal

pub returns : goal.returns
returns c =
    let s = c.args.self.now in
    let e = c.part_in.ensures _ c.range.ensures.stands in
    (e, leaving_row _ _ s.bytes s.passed e)
