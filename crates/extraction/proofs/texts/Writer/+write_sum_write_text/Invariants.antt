use Rattle.std.proofs.Common.{◌+◌, ◌-◌, ◌*◌, ◌≡◌, length}
use Rattle.bits.specs.declared.Span.{Span}
use Rattle.chart.specs.Leaving.{RangeOf}
use Rattle.extraction.specs.Writers.{half_of}
use Rattle.extraction.proofs.WriterLaws.{SumAt}
use Rattle.extraction.proofs.texts.Writer.+write_sum_write_text.Given as goal

-- The number that falls is that of the nodes that are left, from `count` up to `limit`: twice that for a text, and one
-- more for a sum.
abbrev pub decreases-write_sum : goal.decreases-write_sum
decreases-write_sum l = 2 * (l.limit - l.count) + 1

abbrev pub decreases-write_text : goal.decreases-write_text
decreases-write_text l = 2 * (l.limit - l.count)

abbrev pub invariant-write_sum-loop-row : goal.invariant-write_sum-loop-row
invariant-write_sum-loop-row l =
    let s = l.initial.self in
    let b = s.labelling.chart.now.body.now in
    (l.self.labelling ≡ s.labelling)
    × ((r : Span) → RangeOf b l.w r → SumAt b s.labelling.labels.now (half_of l.half) l.w l.back r l.count l.limit s.nodes.bytes
    l.self.nodes.bytes l.at (length l.yielded))
