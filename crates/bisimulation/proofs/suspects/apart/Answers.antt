use Rattle.bisimulation.proofs.SuspectLaws.{apart_sets}
use Rattle.bisimulation.proofs.suspects.apart.Goals as goal

pub returns : goal.returns
returns c =
    apart_sets c.empty.ensures c.with.ensures c.intersection-end.ensures c.without.ensures
    c.union.ensures
