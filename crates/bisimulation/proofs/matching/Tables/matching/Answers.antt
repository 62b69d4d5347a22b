use Rattle.bisimulation.proofs.ClearLaws.{match_read}
use Rattle.bisimulation.proofs.matching.Tables.matching.Goals as goal

pub returns : goal.returns
returns c =
    let s = c.args.self.now in
    match_read s.at.now.into s.acting.now s.chart.now.body.now c.args.i c.bit_and.result c.target.ensures.0
    c.action.ensures.0 c.bit_and.ensures
