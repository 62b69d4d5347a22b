use mathlib.Core.Path.{refl}
use native.Mathlib.Omega.{arith}
use lib.ListN.{length-drop}
use Rattle.chart.proofs.Checks.{well_formed}
use Rattle.chart.proofs.Rows.{looked_up, rows_of}
use Rattle.chart.proofs.Chart.rows.Goals as goal

pub slice_bounds-as_chunks-count : goal.slice_bounds-as_chunks-count
slice_bounds-as_chunks-count c = (well_formed _ c.args.self.now.passed).header.long

pub slice_bounds-as_chunks-start : goal.slice_bounds-as_chunks-start
slice_bounds-as_chunks-start c = (well_formed _ c.args.self.now.passed).header.long

pub slice_bounds-result-end : goal.slice_bounds-result-end
slice_bounds-result-end c =
    let b = c.args.self.now.body.now in
    let W = well_formed _ c.args.self.now.passed in
    omega (arith, c.range-range.ensures.within, c.as_chunks.ensures.front_len, length-drop 4 b, W.header.whole)

pub returns : goal.returns
returns c =
    let s = c.args.self.now in
    rows_of (looked_up _ _ s.bytes s.passed refl) c.range-range.ensures.stands s.bytes (well_formed _ s.passed) c.as_chunks.ensures.front
