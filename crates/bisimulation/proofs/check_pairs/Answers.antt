use mathlib.Core.Path.{◌∙◌}
use Rattle.chart.proofs.Checks.{well_formed}
use Rattle.bisimulation.proofs.Relations.{fitting, relation_of_lem}
use Rattle.bisimulation.proofs.ClassLaws.{sorted_none}
use Rattle.bisimulation.proofs.SuspectLaws.{into_none}
use Rattle.bisimulation.proofs.ClearLaws.{step_tables, sought}
use Rattle.bisimulation.proofs.check_pairs.Goals as goal

pub fill_tables-requires : goal.fill_tables-requires
fill_tables-requires c = (into_none _ _, sorted_none _ 256)

pub returns : goal.returns
returns c =
    let k = c.args.chart.now in
    let F = c.fill_tables.ensures in
    λ e N P.
    let G = c.gather.ensures in
    let S =
    sought k.bytes (well_formed _ k.passed) (step_tables N F.0 F.1) c.args.steps.now.relation.few c.users.ensures
    c.used.ensures N.size P c.columns.ensures G N.fits in
    let (o, h, s) = c.run.ensures e c.args.steps.now.relation.bytes.now S N.size N.starts in
    s ∙ relation_of_lem (fitting N.fits h)
