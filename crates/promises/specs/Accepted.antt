-- What an accepted file is: four records, an expression, a connected chart with a layered loop witness, and a
-- bisimulation between the expression's chart and the panel's; and the three counts.
use Rattle.std.specs.Prelude.{◌≡◌, List, ℕ, suc, ◌*◌, ◌<◌, ◌≤◌, length}
use Rattle.theory.specs.Charts.{Steps}
use Rattle.theory.specs.Orders.{AllLoops}
use Rattle.theory.specs.Systems.{System, Bisimulation}
use Rattle.theory.specs.Transitions as transitions
use Rattle.theory.specs.Witnesses.{Witness, Connected}
use Rattle.chart.specs.Bodies as chart
use Rattle.chart.specs.Steps.{StepsOf}
use Rattle.expression.specs.Table as nodes
use Rattle.expression.specs.Body.{chart_transitions}
use Rattle.bisimulation.specs.Answers.{Related}
use Rattle.verdict.specs.Files.{file_of}
use Rattle.chart.specs.Systems.{system_of}

-- the chart of an expression's nodes
abbrev pub expression_system : List ℕ → System
expression_system s = transitions.chart (nodes.count s) (chart_transitions s)

-- the bodies of the four records
pub record Yard (s b labels relation : List ℕ) : Type 0 where
  pub expression : nodes.WellFormed s
  pub chart_body : chart.WellFormed b
  pub labelled : length labels ≡ chart.count_of b
  pub connected : Connected (chart.vertices_of b) (StepsOf b labels) (chart.start_of b)
  pub witness : Witness (StepsOf b labels) (chart.start_of b)
  pub rows : length relation ≡ 16 * suc (nodes.count s)
  pub in_range : (u v : ℕ) → Related relation u v → (u < suc (nodes.count s)) × (v < chart.vertices_of b)
  pub bisimulation : Bisimulation (expression_system s) (system_of b) (Related relation)

abbrev pub NumberOfLoops : Steps → ℕ → Type 0
NumberOfLoops S n = (xs : List (ℕ × ℕ)) × AllLoops S xs × (length xs ≡ n)

-- a file that holds a yard, with its vertices, transitions and loops
pub record Holds (f : List ℕ) (v t l : ℕ) : Type 0 where
  pub s : List ℕ
  pub b : List ℕ
  pub labels : List ℕ
  pub relation : List ℕ
  pub short : length f ≤ 43536
  pub records : f ≡ file_of s b labels relation
  pub yard : Yard s b labels relation
  pub vertices : v ≡ chart.vertices_of b
  pub transitions : t ≡ chart.count_of b
  pub loops : NumberOfLoops (StepsOf b labels) l
