use native.Mathlib.Omega.{arith}
use Rattle.chart.proofs.Checks.{passes}
use Rattle.chart.proofs.Order.{low_high}
use Rattle.elimination.proofs.Entries.{cleared_out}
use Rattle.elimination.proofs.clear.Goals as goal

pub range_of-range-requires : goal.range_of-range-requires
range_of-range-requires c = passes _ c.requires.formed

pub slice_bounds-clear_in-count : goal.slice_bounds-clear_in-count
slice_bounds-clear_in-count c = let R = c.range_of-range.ensures in omega (arith, low_high R.begins R.ends)

pub slice_bounds-clear_in-start : goal.slice_bounds-clear_in-start
slice_bounds-clear_in-start c = let R = c.range_of-range.ensures in omega (arith, low_high R.begins R.ends)

pub slice_bounds-clear_in-count-2 : goal.slice_bounds-clear_in-count-2
slice_bounds-clear_in-count-2 c = let R = c.range_of-range.ensures in omega (arith, low_high R.begins R.ends)

pub slice_bounds-clear_in-start-2 : goal.slice_bounds-clear_in-start-2
slice_bounds-clear_in-start-2 c = let R = c.range_of-range.ensures in omega (arith, low_high R.begins R.ends)

pub returns : goal.returns
returns c =
    let F = c.requires in
    cleared_out c.range_of-range.ensures F.each F.marked.long c.clear_in.ensures
