use Rattle.bisimulation.proofs.SmallLaws.{small_pairs}
use Rattle.bisimulation.proofs.doubtful.Goals as goal

pub returns-then-small_passes : goal.returns-then-small_passes
returns-then-small_passes c =
    λ e N u v r n. small_pairs N.lists c.args.steps.now.stepped c.args.chart.now.begun (c.small_passes.ensures c.if-small_passes.true) u v r
