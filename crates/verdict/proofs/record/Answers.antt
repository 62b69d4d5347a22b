use mathlib.Core.Path.{sym, ◌∙◌}
use native.Mathlib.Omega.{arith}
use Rattle.verdict.proofs.Files.{record_cut, record_other, record_short, record_passes}
use Rattle.verdict.proofs.record.Goals as goal

pub returns-then-file-at-lt4 : goal.returns-then-file-at-lt4
returns-then-file-at-lt4 c = record_cut _ _ _ (omega arith)

pub returns-then-found-kind : goal.returns-then-found-kind
returns-then-found-kind c = record_other _ _ _ (omega arith) _ c.read_u16-found.ensures.0 c.if-found-kind.true

pub returns-then-file-at : goal.returns-then-file-at
returns-then-file-at c = record_short _ _ _ (omega arith) (sym c.if-found-kind.false ∙ c.read_u16-found.ensures.0) (omega (arith, c.read_u16.ensures))

pub returns : goal.returns
returns c = record_passes _ _ _ (omega arith) (sym c.if-found-kind.false ∙ c.read_u16-found.ensures.0) (omega (arith, c.read_u16.ensures))
