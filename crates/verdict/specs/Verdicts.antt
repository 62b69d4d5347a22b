-- The verdict on a yard file: the stages in document 01's order, and the check that fails.
use Rattle.std.specs.Prelude.{◌≡◌, List, ℕ, Result, Ok, Err}
use Rattle.report.specs.Stages.{after}
use Rattle.report.specs.declared.Refusal.{Refusal}
use Rattle.report.specs.declared.Accepted.{Accepted}
use Rattle.report.specs.Numbers.{accepted_with}
use Rattle.chart.specs.Bodies.{vertices_of, start_of, count_of}
use Rattle.chart.specs.Checks as chart
use Rattle.expression.specs.Table as expression
use Rattle.expression.specs.Body.{body_of}
use Rattle.witness.specs.Labellings.{labelled_of}
use Rattle.bisimulation.specs.Relations.{relation_of}
use Rattle.bisimulation.specs.Answers.{Related, RelationFits}
use Rattle.verdict.specs.Files.{records_of, body_at}

-- the bodies of the four records
abbrev pub nodes_in : List ℕ → List ℕ
nodes_in f = body_at f 0

abbrev pub chart_in : List ℕ → List ℕ
chart_in f = body_at f 1

abbrev pub labels_in : List ℕ → List ℕ
labels_in f = body_at f 2

abbrev pub relation_in : List ℕ → List ℕ
relation_in f = body_at f 3

-- the labelling's stage hands on the number of loops
abbrev pub on_loops : Result ℕ Refusal → (ℕ → Result Accepted Refusal) → Result Accepted Refusal
on_loops (Ok loops) next = next loops
on_loops (Err place) next = Err place

-- V, T and the number of loops
abbrev pub accepted : List ℕ → ℕ → Result Accepted Refusal
accepted b loops = Ok (accepted_with (vertices_of b) (count_of b) loops)

-- the last two stages: the labelling of a chart, and its relation to the chart of the nodes
abbrev pub drawn_verdict : List ℕ → List ℕ → List ℕ → List ℕ → Result Accepted Refusal
drawn_verdict nodes b labels relation =
    on_loops (labelled_of b labels) (λ loops.
    after (relation_of (body_of nodes) b relation)
    (accepted b loops))

-- THE STAGES IN ORDER: the records, the nodes, the chart, the labelling, the relation
unfoldable pub verdict_of : List ℕ → Result Accepted Refusal
verdict_of f =
    after (records_of f)
    (after (expression.check_of (nodes_in f))
    (after (chart.check_of (chart_in f))
    (drawn_verdict (nodes_in f) (chart_in f) (labels_in f) (relation_in f))))

-- what the relation's stage requires: the stages of the nodes and of the chart pass
abbrev pub BothPass : List ℕ → List ℕ → Type 0
BothPass nodes b = (expression.check_of nodes ≡ Ok tt) × (chart.check_of b ≡ Ok tt)

-- and 43 to 45: that 40 to 42 do too, and that the expression's chart has so many vertices
pub record ComeToPairs (nodes : List ℕ) (vertices : ℕ) (b relation : List ℕ) : Type 0 where
  pub both : BothPass nodes b
  pub is_number : vertices ≡ vertices_of (body_of nodes)
  pub fits : RelationFits (body_of nodes) b relation
  pub starts : Related relation (start_of (body_of nodes)) (start_of b)

-- THE CHECK THAT FAILS, with its place: those before it pass
pub data Fails (f : List ℕ) (p : Refusal) : Type 0 where
  records_fail : records_of f ≡ Err p → Fails f p
  nodes_fail : records_of f ≡ Ok tt → expression.check_of (nodes_in f) ≡ Err p → Fails f p
  chart_fails : records_of f ≡ Ok tt → expression.check_of (nodes_in f) ≡ Ok tt
      → chart.check_of (chart_in f) ≡ Err p → Fails f p
  labels_fail : records_of f ≡ Ok tt → expression.check_of (nodes_in f) ≡ Ok tt
      → chart.check_of (chart_in f) ≡ Ok tt → labelled_of (chart_in f) (labels_in f) ≡ Err p → Fails f p
  relation_fails : {l : ℕ} → records_of f ≡ Ok tt → expression.check_of (nodes_in f) ≡ Ok tt
      → chart.check_of (chart_in f) ≡ Ok tt → labelled_of (chart_in f) (labels_in f) ≡ Ok l
      → relation_of (body_of (nodes_in f)) (chart_in f) (relation_in f) ≡ Err p → Fails f p
