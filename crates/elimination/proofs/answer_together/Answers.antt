use mathlib.Core.Path.{sym, ◌∙◌}
use native.Mathlib.Omega.{arith}
use Rattle.std.proofs.lemmas.Result.{err_from_is_err_and}
use Rattle.theory.proofs.Tests.{not_so}
use Rattle.bits.specs.Bits.{Bytes}
use Rattle.elimination.proofs.TogetherCalls.{together_refused, together_list, together_ruled}
use Rattle.elimination.proofs.answer_together.Goals as goal

pub returns-in_err-given : goal.returns-in_err-given
returns-in_err-given c =
    let p = err_from_is_err_and c.from_residual.result c.from_residual.ensures.1 in
    rw (p.1, p.2) (sym (together_refused _ _ _ _ c.in_err-given.ensures))

pub returns-then-not-list_fits : goal.returns-then-not-list_fits
returns-then-not-list_fits c =
    let (e, f, g) = c.in_ok-given.ensures in
    sym (together_list _ _ _ _ (rw (e, f, g) at c.in_ok-given.given.fits) (not_so c.list_fits.ensures c.if-not-list_fits.true))

pub ruled_together-requires : goal.ruled_together-requires
ruled_together-requires c = (c.list_fits.ensures.0 c.if-not-list_fits.false).short

pub returns : goal.returns
returns c =
    let (e, f, g) = c.in_ok-given.ensures in
    let B : Bytes c.args.labels.now = λ k. omega (arith, c.type_inv.labels k) in
    let (a, s, r) = rw (e, f, g) at c.ruled_together.ensures in
    s ∙ sym (together_ruled _ _ _ _ B (rw (e, f, g) at c.in_ok-given.given.fits) (c.list_fits.ensures.0 c.if-not-list_fits.false) r)
