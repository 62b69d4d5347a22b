use Rattle.bisimulation.proofs.ClearLaws.{refuse_none, refuse_some}
use Rattle.bisimulation.proofs.clearing.Clearing.refusable.Goals as goal

pub returns-then-is_empty : goal.returns-then-is_empty
returns-then-is_empty c = (refuse_none _ _ _ _ _ _ (c.is_empty.ensures.0 c.if-is_empty.true), c.requires.1)

pub returns : goal.returns
returns c =
    let p = c.requires in
    let W = c.walk-walked.ensures in (
      refuse_some c.args.self.now.tables.now.chart.now.begun p.0 c.same_ends.ensures W.0 _ c.bit_and_not.ensures
          c.united-unmatched.ensures c.difference.ensures c.difference-2.ensures,
      W.1,
    )
