use mathlib.Core.Path.{ap, ◌∙◌}
use Prim.Native.Nat.{ℕ, ◌+◌}
use native.Mathlib.Omega.{arith}
use Rattle.verdict.specs.Files.{offset_of}
use Rattle.verdict.proofs.Files.{records_whole, offset_none, offset_next}
use Rattle.verdict.proofs.offset.Goals as goal

pub loop-i-init : goal.loop-i-init
loop-i-init c = (records_whole _ c.requires.0, offset_none _, omega arith, c.requires.1)

pub overflow_add-at : goal.overflow_add-at
overflow_add-at c = let i = c.loop-i.invariant in omega (arith, i.0.each c.loop-i.i (omega arith))

pub read_u16-requires : goal.read_u16-requires
read_u16-requires c = let i = c.loop-i.invariant in omega (arith, i.0.each c.loop-i.i (omega arith))

pub overflow_add-at-in-loop-i : goal.overflow_add-at-in-loop-i
overflow_add-at-in-loop-i c = let i = c.loop-i.invariant in omega (arith, i.0.each c.loop-i.i (omega arith), c.read_u16.ensures)

pub loop-i-preserved : goal.loop-i-preserved
loop-i-preserved c = let l = c.loop-i in (l.invariant.0, ap (λ (x : ℕ). l.at + 4 + x) c.read_u16.ensures.0 ∙ offset_next _ _ _ l.invariant.1, omega arith, omega arith)

pub returns : goal.returns
returns c = c.loop-i.invariant.1 ∙ ap (offset_of _) (omega arith)
