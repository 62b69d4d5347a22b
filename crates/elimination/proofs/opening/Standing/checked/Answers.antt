use mathlib.Core.Path.{sym, ◌∙◌}
use native.Mathlib.Omega.{arith}
use Rattle.std.proofs.lemmas.Result.{err_from_is_err_and}
use Rattle.theory.proofs.Tests.{not_so}
use Rattle.chart.proofs.Checks.{well_formed}
use Rattle.chart.proofs.Refusals.{chart_refused}
use Rattle.elimination.specs.RemovalAnswers.{other_chart, other_length, other_standing}
use Rattle.elimination.proofs.opening.Standing.checked.Goals as goal

pub returns-in_err-check : goal.returns-in_err-check
returns-in_err-check c =
    let p = err_from_is_err_and c.from_residual.result c.from_residual.ensures.1 in
    rw (p.1, p.2) (other_chart ((chart_refused _ _).0 (sym c.in_err-check.ensures)))

pub count-n-requires : goal.count-n-requires
count-n-requires c = (well_formed _ (sym c.in_ok-check.ensures)).header.long

pub returns-then-labels-n : goal.returns-then-labels-n
returns-then-labels-n c =
    other_length (well_formed _ (sym c.in_ok-check.ensures)) (λ e. c.if-labels-n.true (e ∙ sym c.count-n.ensures.0))

pub returns-then-not-standing_fits : goal.returns-then-not-standing_fits
returns-then-not-standing_fits c =
    let n = c.count-n.ensures.0 in
    other_standing (well_formed _ (sym c.in_ok-check.ensures)) (c.if-labels-n.false ∙ n)
    (not_so (c.standing_fits.ensures _ n) c.if-not-standing_fits.true)

pub invariant_of-result : goal.invariant_of-result
invariant_of-result c =
    let n = c.count-n.ensures.0 in
    record {
      bytes = λ k. omega (arith, c.type_inv.chart k);
      fits = record {
        formed = well_formed _ (sym c.in_ok-check.ensures);
        each = c.if-labels-n.false ∙ n;
        marked = (c.standing_fits.ensures _ n).0 c.if-not-standing_fits.false;
      };
    }
