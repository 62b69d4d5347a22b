use Rattle.bisimulation.proofs.SuspectLaws.{suspected}
use Rattle.bisimulation.proofs.matching.Tables.suspects.Goals as goal

pub returns : goal.returns
returns c = suspected c.row.ensures c.apart.ensures c.sift.ensures
