-- R, N, C: what the records, the nodes and the chart answer.
use mathlib.Core.Path.{sym, ◌∙◌}
use Rattle.report.proofs.Exits.{handed_on}
use Rattle.chart.specs.Checks as chart
use Rattle.expression.specs.Table as expression
use Rattle.verdict.specs.Verdicts.{records_fail, nodes_fail, chart_fails}
use Rattle.verdict.proofs.Stages.{stage_in, drawn_in}
use Rattle.verdict.proofs.Verdicts.{comes_to_drawn, fails_refused}
use Rattle.verdict.proofs.check.Goals as goal

pub returns-in_err-records : goal.returns-in_err-records
returns-in_err-records c =
    handed_on _ c.from_residual.ensures.1 ∙ sym (fails_refused _ (records_fail (sym c.in_err-records.ensures)))

pub returns-in_err-check_with_targets : goal.returns-in_err-check_with_targets
returns-in_err-check_with_targets c =
    let R = sym c.in_ok-records.ensures in
    let N = stage_in expression.check_of c.body-nodes.ensures c.check_with_targets.ensures.0 c.in_err-check_with_targets.was in
    handed_on _ c.from_residual-in_err-check_with_targets.ensures.1 ∙ sym (fails_refused _ (nodes_fail R N))

pub returns-in_err-check : goal.returns-in_err-check
returns-in_err-check c =
    let R = sym c.in_ok-records.ensures in
    let N = stage_in expression.check_of c.body-nodes.ensures c.check_with_targets.ensures.0 c.in_ok-check_with_targets.was in
    let C = stage_in chart.check_of c.body-drawn.ensures c.check.ensures c.in_err-check.was in
    handed_on _ c.from_residual-in_err-check.ensures.1 ∙ sym (fails_refused _ (chart_fails R N C))

pub returns : goal.returns
returns c =
    let R = sym c.in_ok-records.ensures in
    let N = stage_in expression.check_of c.body-nodes.ensures c.check_with_targets.ensures.0 c.in_ok-check_with_targets.was in
    let C = stage_in chart.check_of c.body-drawn.ensures c.check.ensures c.in_ok-check.was in
    drawn_in _ c.body-nodes.ensures c.body-drawn.ensures c.body.ensures c.body-2.ensures c.check_drawn.ensures
    ∙ sym (comes_to_drawn _ R N C)
