use mathlib.Core.List.{List}
use Prim.Native.Nat.{ℕ, ◌<◌}
use Rattle.bisimulation.specs.Answers.{Related, Passes}
use Rattle.bisimulation.specs.Pairs.{Sought}
use Rattle.bisimulation.proofs.pairs.Search.run.Given as goal

abbrev pub invariant-loop-u : goal.invariant-loop-u
invariant-loop-u l = (e relation : List ℕ)
    → Sought l.self.tables.now.at.now.into l.self.tables.now.acting.now l.self.steps.now.words.now l.self.table.now l.self.tables.now.chart.now.body.now e relation
    → (a : ℕ) → a < l.u → (w : ℕ) → Related relation a w → Passes e l.self.tables.now.chart.now.body.now relation a w
