-- The chart of a body: as a system, run, by the index of its transitions, and with its labelling.
use Rattle.std.specs.Prelude.{ℕ, List, get_or}
use Rattle.theory.specs.Systems.{System}
use Rattle.theory.specs.Transitions.{chart}
use Rattle.theory.specs.Runs.{Machine, chart_machine}
use Rattle.theory.specs.Relations.{Indexed}
use Rattle.theory.specs.LabelledCharts.{LabelledChart}
use Rattle.chart.specs.Bodies.{start_of, count_of, from_of, action_of, to_of}
use Rattle.chart.specs.Steps.{transitions_of}

abbrev pub system_of : List ℕ → System
system_of b = chart (start_of b) (transitions_of b)

abbrev pub machine_of : List ℕ → Machine
machine_of b = chart_machine (start_of b) (transitions_of b)

abbrev pub indexed_of : List ℕ → Indexed
indexed_of b = record { start = start_of b; count = count_of b; from = from_of b; action = action_of b; to = to_of b }

-- a drawn chart: the body with a label for each transition
abbrev pub drawn_of : List ℕ → List ℕ → LabelledChart
drawn_of b labels = record { chart = indexed_of b; label = λ i. get_or labels i 0 }
