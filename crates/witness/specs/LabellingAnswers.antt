-- What document 01 says of each answer of 30 to 35, over the transitions of the bytes.
use Rattle.std.specs.Prelude.{ℕ, ◌≡◌, List, length, Result, Ok, Err}
use Rattle.theory.specs.Charts.{Loop}
use Rattle.theory.specs.LoopCharts as loops
use Rattle.theory.specs.Witnesses.{Witness, Connected}
use Rattle.theory.specs.Least.{Least}
use Rattle.theory.specs.Checks.{Unreached, OnBranchCycle, NoBranchCycle, NotLower, EarlierPass}
use Rattle.theory.specs.Orders.{AllLoops}
use Rattle.report.specs.declared.Refusal.{Refusal}
use Rattle.report.specs.declared.Refusal.TheVariants as refusal
use Rattle.chart.specs.Bodies.{vertices_of, start_of, count_of}
use Rattle.chart.specs.Steps.{StepsOf}

module _ (b labels : List ℕ) where
  -- 30 passes: a byte a transition
  abbrev pub Long : Type 0
  Long = length labels ≡ count_of b

  -- 31 passes
  abbrev pub Reaches : Type 0
  Reaches = Connected (vertices_of b) (StepsOf b labels) (start_of b)

  -- 30 to 32 pass, and the loops before (v, l) do
  pub record FirstLoop (v l : ℕ) : Type 0 where
    pub long : Long
    pub reaches : Reaches
    pub acyclic : NoBranchCycle (StepsOf b labels)
    pub is_loop : Loop (StepsOf b labels) v l
    pub earlier : EarlierPass (StepsOf b labels) v l

  -- w is in the body of the loop (v, l)
  abbrev pub InBody : ℕ → ℕ → ℕ → Type 0
  InBody v l w = loops.InBody (StepsOf b labels) v l w

  -- each answer, with its place
  pub data LabellingAnswer : Result ℕ Refusal → Type 0 where
    -- a layered loop witness of a connected chart, with the number of its loops
    passed : (loops : List (ℕ × ℕ)) → Long → Reaches → Witness (StepsOf b labels) (start_of b)
        → AllLoops (StepsOf b labels) loops → LabellingAnswer (Ok (length loops))
    -- 30
    other_length : ¬ Long → LabellingAnswer (Err (refusal.LabelsLength (length labels)))
    -- 31
    unreached_at : {p : ℕ} → Long → Least (Unreached (vertices_of b) (StepsOf b labels) (start_of b)) p
        → LabellingAnswer (Err (refusal.Unreached p))
    -- 32
    cycle_at : {p : ℕ} → Long → Reaches → Least (OnBranchCycle (StepsOf b labels)) p
        → LabellingAnswer (Err (refusal.BranchCycle p))
    -- 33
    no_way_back : {v l : ℕ} → FirstLoop v l → ¬ InBody v l v → LabellingAnswer (Err (refusal.LoopNoReturn v l))
    -- 34
    end_in_body : {v l : ℕ} → FirstLoop v l → InBody v l v → InBody v l 0
        → LabellingAnswer (Err (refusal.LoopEndInside v l))
    -- 35
    not_lower_at : {v l r : ℕ} → FirstLoop v l → InBody v l v → ¬ InBody v l 0
        → Least (NotLower (StepsOf b labels) v l) r → LabellingAnswer (Err (refusal.LoopNotLower v l r))
