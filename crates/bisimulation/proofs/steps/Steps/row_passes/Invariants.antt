use mathlib.Core.List.{Memᴰ}
use Prim.Native.Nat.{ℕ}
use lib.ListN.{get_or}
use Rattle.bisimulation.specs.Small.{PairPassesBy}
use Rattle.bisimulation.proofs.steps.Steps.row_passes.Given as goal

abbrev pub invariant-loop-v : goal.invariant-loop-v
invariant-loop-v l = (v : ℕ) → Memᴰ v l.yielded
    → PairPassesBy l.self.keys.now l.self.relation.bytes.now l.chart.body.now l.chart.begins.now (get_or l.self.words.now l.u 0) l.u v
