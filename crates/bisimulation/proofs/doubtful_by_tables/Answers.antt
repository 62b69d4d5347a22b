use Rattle.chart.proofs.Checks.{well_formed}
use Rattle.bisimulation.proofs.ClassLaws.{sorted_none}
use Rattle.bisimulation.proofs.SuspectLaws.{into_none, outside_pass}
use Rattle.bisimulation.proofs.doubtful_by_tables.Goals as goal

pub fill_tables-related-requires : goal.fill_tables-related-requires
fill_tables-related-requires c = (into_none _ _, sorted_none _ 256)

pub returns : goal.returns
returns c =
    let k = c.args.chart.now in
    let F = c.fill_tables-related.ensures in
    λ e N. outside_pass c.args.steps.now.stepped F.0 F.1 F.2 k.bytes (well_formed _ k.passed) k.begun c.suspects.ensures N.lists
