use mathlib.Core.List.{List}
use Prim.Native.Nat.{ℕ, ◌<◌}
use Rattle.bisimulation.specs.Answers.{Related, Passes}
use Rattle.bisimulation.specs.Pairs.{Sought}
use Rattle.bisimulation.proofs.pairs.Search.check_row.Given as goal

abbrev pub invariant-loop-v : goal.invariant-loop-v
invariant-loop-v l = (e relation : List ℕ)
    → Sought l.self.tables.now.at.now.into l.self.tables.now.acting.now l.self.steps.now.words.now l.self.table.now l.self.tables.now.chart.now.body.now e relation
    → (w : ℕ) → w < l.v → Related relation l.u w → Passes e l.self.tables.now.chart.now.body.now relation l.u w
