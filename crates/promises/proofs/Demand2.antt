-- Demand 2, proved.
use mathlib.Core.Path.{◌≡◌, sym, ◌∙◌, subst}
use mathlib.Core.Logic.{◌↔◌}
use mathlib.Core.List.{List, Memᴰ}
use Prim.Native.Nat.{ℕ, suc, ◌-◌, ◌<◌}
use native.Mathlib.Omega.{arith}
use Rattle.theory.specs.Expressions.{Step}
use Rattle.theory.specs.Nodes.{residual}
use Rattle.theory.specs.Climbs.{LeadsBy}
use Rattle.theory.proofs.ExpressionCharts.{residual_of_start}
use Rattle.theory.proofs.Climbs.{chart_leads}
use Rattle.std.specs.Prelude.{Ok}
use Rattle.bits.specs.Bits.{Bytes}
use Rattle.chart.specs.Checks as chart
use Rattle.expression.specs.Table as nodes
use Rattle.expression.specs.Body.{body_of, chart_transitions}
use Rattle.expression.specs.Charts.{IsChart}
use Rattle.expression.proofs.Table.{passed→well_formed, tree}
use Rattle.expression.proofs.Occurrences.{twice, not_to_the_other}
use Rattle.expression.proofs.Chart.{body_vertices, body_start, body_transitions, passed_chart, length_says}
use Rattle.witness.proofs.Labellings.{labelled_iff_witness}
use Rattle.bisimulation.proofs.Relations.{relation_iff_bisimulation}
use Rattle.promises.specs.Demand2.{HasTransition, ExactSteps, WritesTheChart, LabellingPasses, RelationPasses}

module _ (s : List ℕ) (passed : nodes.check_of s ≡ Ok tt) where
  chart_of : IsChart s (chart_transitions s)
  chart_of = passed_chart s passed

  vertex_of_lem : (u a t : ℕ) → Memᴰ (u, a, t) (chart_transitions s) → (k : ℕ) × (k < nodes.count s) × (u ≡ suc k)
  vertex_of_lem u a t m = let b = chart_of.fits (u, a, t) m in (u - 1, omega arith, omega arith)

  leads : (k a t : ℕ) → Memᴰ (suc k, a, t) (chart_transitions s) ↔ ((k < nodes.count s) × LeadsBy (nodes.node s) (nodes.count s) k a t)
  unfolding chart_transitions
  leads = chart_leads (nodes.node s) (nodes.count s) (tree s (passed→well_formed s passed))

  pub exact_steps : ExactSteps s (body_of s)
  exact_steps = record {
    derived = λ k h a ξ. (
      (λ d. let (t, m, e) = chart_of.all k h d in (t, rw body_transitions m, e)),
      (λ (t, m, e). subst (Step (residual (nodes.node s) (nodes.count s) k) a) e (chart_of.steps k a t (rw body_transitions at m)).1),
    );
    climbs = λ k h a t. (
      (λ l. rw body_transitions ((leads k a t).1 (h, l))),
      (λ m. ((leads k a t).0 (rw body_transitions at m)).1),
    );
    vertices = λ u a t m. vertex_of_lem u a t (rw body_transitions at m);
    targets = λ u a t m.
        let b = chart_of.fits (u, a, t) (rw body_transitions at m) in
        let v = body_vertices s in
        omega arith;
    size = body_vertices s;
    ascend = rw body_transitions chart_of.ascend;
    start = λ k e. (body_start s ∙ e, residual_of_start (nodes.node s) (nodes.count s) (tree s (passed→well_formed s passed)) k e);
  }

-- no chart of (1·2)+(1·2) has the first 1 lead to the second 2
pub occurrences_apart : (body : List ℕ) → HasTransition body 1 1 5 → ¬ ExactSteps twice body
unfolding nodes.count
occurrences_apart body m E = not_to_the_other ((E.climbs 0 (omega arith) 1 5).1 m)

-- the expression's chart is written with exactly the steps that the rules derive
pub writes_the_chart : (s lent : List ℕ) → WritesTheChart s lent
writes_the_chart s lent n e = let (p, l, w, q) = length_says s lent n e in (body_of s, q, sym l, exact_steps s p)

-- a labelling passes exactly when it is a layered loop witness of a connected chart
pub labelling_passes : (b labels : List ℕ) → chart.check_of b ≡ Ok tt → Bytes labels → LabellingPasses b labels
labelling_passes b labels passed bytes = labelled_iff_witness b labels passed bytes

-- a relation passes exactly when it is a bisimulation
pub relation_passes : (e b relation : List ℕ) → RelationPasses e b relation
relation_passes e b relation = relation_iff_bisimulation e b relation
