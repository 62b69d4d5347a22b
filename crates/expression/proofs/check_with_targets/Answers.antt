-- `expression::check_with_targets` meets its contract. A tree passes, and its targets are there. Where there is none, 11 or 12 refuses, and 255 is stored again.
use mathlib.Core.Path.{sym, ◌∙◌}
use mathlib.Core.Bool.{false≢true}
use Rattle.expression.proofs.Lent.{kept_after}
use Rattle.expression.proofs.Table.{passed→well_formed, well_formed→passed}
use Rattle.expression.proofs.check_with_targets.Goals as goal

pub returns-then-try_find_targets : goal.returns-then-try_find_targets
returns-then-try_find_targets c =
    let t = rw c.in_ok-table.ensures at c.try_find_targets.ensures in
    (sym (well_formed→passed _ (t.0.0 c.if-try_find_targets.true)), t.1 c.if-try_find_targets.true)

pub returns : goal.returns
returns c =
    let exactly = (rw c.in_ok-table.ensures at c.try_find_targets.ensures).0 in
    let stage = rw c.in_ok-table.ensures at c.check.ensures in
    (stage, kept_after _ _ _ _ (λ e. false≢true (sym c.if-try_find_targets.false ∙ exactly.1 (passed→well_formed _ (sym stage ∙ e)))) (sym c.requires))
