-- The checks 30 to 35 of a labelling beside a chart body, as a test that runs.
use Rattle.std.specs.Prelude.{cond, ◌&&◌, List, ℕ, eqb, length, get_or, Result, Ok, Err}
use Rattle.theory.specs.Checks.{Outcome, passes, unreached, branch_cycle, no_return, end_inside, not_lower}
use Rattle.theory.specs.Tests.{some_below}
use Rattle.theory.specs.LabellingTests.{StepTest, loop_list, outcome}
use Rattle.report.specs.declared.Refusal.{Refusal}
use Rattle.report.specs.declared.Refusal.TheVariants.{LabelsLength, Unreached, BranchCycle, LoopNoReturn, LoopEndInside, LoopNotLower}
use Rattle.chart.specs.Bodies.{vertices_of, start_of, count_of, from_of, to_of}

-- some transition with the label l leads from u to w
unfoldable pub step_test : List ℕ → List ℕ → StepTest
step_test b labels u l w =
    some_below (λ i. eqb (from_of b i) u && (eqb (get_or labels i 0) l && eqb (to_of b i) w)) (count_of b)

-- the number of loops of a labelling
unfoldable pub loops_of : List ℕ → List ℕ → ℕ
loops_of b labels = length (loop_list (step_test b labels) (vertices_of b) 256)

unfoldable pub labelling_outcome : List ℕ → List ℕ → Outcome
labelling_outcome b labels = outcome (step_test b labels) (vertices_of b) 256 (start_of b)

-- document 01's answer for each outcome of the checks 31 to 35
abbrev pub labelled_as : ℕ → Outcome → Result ℕ Refusal
labelled_as n passes = Ok n
labelled_as n (unreached p) = Err (Unreached p)
labelled_as n (branch_cycle p) = Err (BranchCycle p)
labelled_as n (no_return v l) = Err (LoopNoReturn v l)
labelled_as n (end_inside v l) = Err (LoopEndInside v l)
labelled_as n (not_lower v l r) = Err (LoopNotLower v l r)

-- 30 first
unfoldable pub labelled_of : List ℕ → List ℕ → Result ℕ Refusal
labelled_of b labels =
    cond (eqb (length labels) (count_of b))
    (labelled_as (loops_of b labels) (labelling_outcome b labels))
    (Err (LabelsLength (length labels)))
