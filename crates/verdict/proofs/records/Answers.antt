use mathlib.Core.Path.{refl, sym, ◌∙◌}
use native.Mathlib.Omega.{arith}
use Rattle.report.proofs.Exits.{handed_on}
use Rattle.verdict.proofs.Files.{fits_at_lem, from_step, from_stop, from_after, from_end, records_long, records_from_lem}
use Rattle.verdict.proofs.records.Goals as goal

pub returns-then-file-gt43536 : goal.returns-then-file-gt43536
returns-then-file-gt43536 c = records_long _ (omega arith)

pub loop-kind-init : goal.loop-kind-init
loop-kind-init c = (records_from_lem _ (omega arith), omega arith, omega arith)

pub returns-in_err-record : goal.returns-in_err-record
returns-in_err-record c =
    let e = c.in_err-record.ensures in
    handed_on _ c.from_residual.ensures.1 ∙ sym (from_stop _ _ _ _ (omega arith) e) ∙ c.loop-kind.invariant.0

pub overflow_add-at : goal.overflow_add-at
overflow_add-at c = omega (arith, fits_at_lem _ _ _ _ c.in_ok-record.ensures refl)

pub read_u16-requires : goal.read_u16-requires
read_u16-requires c = omega (arith, fits_at_lem _ _ _ _ c.in_ok-record.ensures refl)

pub overflow_add-at-in-loop-kind : goal.overflow_add-at-in-loop-kind
overflow_add-at-in-loop-kind c = omega (arith, fits_at_lem _ _ _ _ c.in_ok-record.ensures refl, c.read_u16.ensures)

pub loop-kind-preserved : goal.loop-kind-preserved
loop-kind-preserved c =
    let l = c.loop-kind in
    let e = c.in_ok-record.ensures in
    (rw c.read_u16.ensures.0 (sym (from_step _ _ _ (omega arith) e) ∙ l.invariant.0), omega (arith, fits_at_lem _ _ _ _ e refl, c.read_u16.ensures), omega arith)

pub returns-then-at-file : goal.returns-then-at-file
returns-then-at-file c = sym (from_after _ _ _ (omega arith) (omega arith)) ∙ c.loop-kind.invariant.0

pub returns : goal.returns
returns c = sym (from_end _ _ _ (omega arith) (omega arith)) ∙ c.loop-kind.invariant.0
