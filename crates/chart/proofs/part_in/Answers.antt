use native.Mathlib.Omega.{arith}
use Rattle.chart.proofs.Parts.{range_fits, leaving_range}
use Rattle.chart.proofs.part_in.Goals as goal

pub overflow_mul-a : goal.overflow_mul-a
overflow_mul-a c = let p = c.requires in omega (arith, range_fits p.0 p.1)

pub overflow_add-a : goal.overflow_add-a
overflow_add-a c = let p = c.requires in omega (arith, range_fits p.0 p.1)

pub overflow_mul-e : goal.overflow_mul-e
overflow_mul-e c = let p = c.requires in omega (arith, range_fits p.0 p.1)

pub overflow_add-e : goal.overflow_add-e
overflow_add-e c = let p = c.requires in omega (arith, range_fits p.0 p.1)

pub slice_bounds-result-count : goal.slice_bounds-result-count
slice_bounds-result-count c = let p = c.requires in omega (arith, range_fits p.0 p.1)

pub slice_bounds-result-start : goal.slice_bounds-result-start
slice_bounds-result-start c = let p = c.requires in omega (arith, range_fits p.0 p.1)

pub slice_bounds-result-end : goal.slice_bounds-result-end
slice_bounds-result-end c = let p = c.requires in omega (arith, range_fits p.0 p.1)

pub returns : goal.returns
returns c = λ v R. leaving_range c.requires.0 R
