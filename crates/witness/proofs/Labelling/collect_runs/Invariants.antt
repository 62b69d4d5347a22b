use mathlib.Core.Path.{◌≡◌}
use lib.ListN.{length}
use Rattle.chart.specs.Steps.{StepsOf}
use Rattle.witness.specs.Given.{FirstOf, Collected}
use Rattle.witness.proofs.Labelling.collect_runs.Given as goal

abbrev pub invariant-loop-u : goal.invariant-loop-u
invariant-loop-u l = Collected (FirstOf l.u (StepsOf l.self.chart.now.body.now l.self.labels.now)) l.next l.branches l.entries l.entered
    × (length l.next ≡ length l.initial.next) × (length l.branches ≡ length l.initial.branches)
    × (length l.entries ≡ length l.initial.entries) × (length l.entered ≡ length l.initial.entered)
