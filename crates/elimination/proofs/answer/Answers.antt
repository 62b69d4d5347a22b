use mathlib.Core.Path.{sym, ◌∙◌}
use native.Mathlib.Omega.{arith}
use Rattle.std.proofs.lemmas.Result.{err_from_is_err_and}
use Rattle.bits.specs.Bits.{Bytes}
use Rattle.elimination.proofs.Removals.{removal_refused, removal_ruled}
use Rattle.elimination.proofs.answer.Goals as goal

pub returns-in_err-checked : goal.returns-in_err-checked
returns-in_err-checked c =
    let p = err_from_is_err_and c.from_residual.result c.from_residual.ensures.1 in
    rw (p.1, p.2) (sym (removal_refused _ _ _ _ _ c.in_err-checked.ensures))

pub returns : goal.returns
returns c =
    let (e, f, g) = c.in_ok-checked.ensures in
    let B : Bytes c.args.labels.now = λ k. omega (arith, c.type_inv.labels k) in
    let (a, s, r) = rw (e, f, g) at c.ruled.ensures in
    s ∙ sym (removal_ruled _ _ _ _ _ B (rw (e, f, g) at c.in_ok-checked.field-0.fits) r)
