use native.Mathlib.Omega.{arith}
use Rattle.verdict.proofs.Files.{records_whole, body_part, body_within}
use Rattle.verdict.proofs.body.Goals as goal

pub overflow_add-start : goal.overflow_add-start
overflow_add-start c = let w = records_whole _ c.requires.0 in omega (arith, w.each _ c.requires.1, c.offset-at.ensures)

pub read_u16-requires : goal.read_u16-requires
read_u16-requires c = let w = records_whole _ c.requires.0 in omega (arith, w.each _ c.requires.1, c.offset-at.ensures)

pub overflow_add-end : goal.overflow_add-end
overflow_add-end c = let w = records_whole _ c.requires.0 in omega (arith, w.each _ c.requires.1, c.offset-at.ensures, c.read_u16.ensures)

pub slice_bounds-result-end : goal.slice_bounds-result-end
slice_bounds-result-end c = body_within _ (records_whole _ c.requires.0) _ _ _ c.requires.1 c.offset-at.ensures c.read_u16.ensures.0

pub returns : goal.returns
returns c = body_part _ _ _ _ c.offset-at.ensures c.read_u16.ensures.0
