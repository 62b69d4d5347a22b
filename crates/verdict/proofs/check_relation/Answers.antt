use mathlib.Core.Path.{sym, ◌∙◌}
use native.Mathlib.Omega.{arith}
use Rattle.report.proofs.Exits.{handed_on}
use Rattle.expression.specs.Body.{body_of}
use Rattle.bisimulation.proofs.Openings.{opening_refused, opening_passes}
use Rattle.verdict.proofs.Stages.{nodes_few, nodes_vertices, nodes_start}
use Rattle.verdict.proofs.check_relation.Goals as goal

pub opening-requires : goal.opening-requires
opening-requires c = (c.args.chart.now.passed, nodes_few _ c.requires.0, omega arith)

pub returns-in_err-opening : goal.returns-in_err-opening
returns-in_err-opening c =
    let n = c.args.nodes.now in
    handed_on _ c.from_residual.ensures.1 ∙ sym c.in_err-opening.was
    ∙ opening_refused (body_of n) _ _ _ _ (nodes_vertices n) (nodes_start n) c.opening.ensures c.in_err-opening.was

pub invariant_of-relation : goal.invariant_of-relation
invariant_of-relation c =
    let n = c.args.nodes.now in
    let F = (opening_passes (body_of n) _ _ _ _ (nodes_vertices n) (nodes_start n) c.opening.ensures c.in_ok-opening.was).0 in
    record { whole = rw (← nodes_vertices n) F.whole; few = nodes_few _ c.requires.0 }

pub check_listed_pairs-requires : goal.check_listed_pairs-requires
check_listed_pairs-requires c =
    let n = c.args.nodes.now in
    let (F, S) = opening_passes (body_of n) _ _ _ _ (nodes_vertices n) (nodes_start n) c.opening.ensures c.in_ok-opening.was in (
      record {
        both = (c.requires.0, c.args.chart.now.passed);
        is_number = sym (nodes_vertices n);
        fits = F;
        starts = S;
      },
      c.requires.1,
    )
