use mathlib.Core.Path.{◌≡◌}
use lib.ListN.{length}
use Rattle.witness.specs.Given.{Collected}
use Rattle.witness.proofs.Seen.{Seen}
use Rattle.witness.proofs.Labelling.collect_singly.Given as goal

abbrev pub invariant-loop-i : goal.invariant-loop-i
invariant-loop-i l = Collected (Seen l.self.chart.now.body.now l.self.labels.now 0 l.i) l.next l.branches l.entries l.entered
    × (length l.next ≡ length l.initial.next) × (length l.branches ≡ length l.initial.branches)
    × (length l.entries ≡ length l.initial.entries) × (length l.entered ≡ length l.initial.entered)
