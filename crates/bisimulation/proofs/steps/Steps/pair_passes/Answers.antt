use borrow.Author.Tests.{not-false}
use Rattle.bisimulation.proofs.PairChecks.{decides_ends}
use Rattle.bisimulation.proofs.steps.Steps.pair_passes.Goals as goal

pub returns : goal.returns
returns c =
    λ h. ((decides_ends c.args.u c.args.v).0 (not-false _ c.if-u-v.false), c.word_passes.ensures h)
