-- 43 to 45 of each pair straight by the keys of the steps: the contracts of the code.
use Rattle.std.specs.Prelude.{◌≡◌, List, ℕ, ◌+◌, ◌/◌, ◌<◌, get_or}
use Rattle.theory.specs.Relations.{EndsAgree}
use Rattle.chart.specs.Bodies.{action_of, to_of}
use Rattle.bisimulation.specs.Answers.{Related}
use Rattle.bisimulation.specs.Suspects.{row_at}
use Rattle.bisimulation.specs.Classes.{Passing}

-- step k has the action of transition i, and a target that is related to its target
pub record StepFits (keys relation body : List ℕ) (i k : ℕ) : Type 0 where
  pub action : get_or keys k 0 / 256 ≡ action_of body i
  pub target : Related relation (row_at keys k) (to_of body i)

-- a step of the word matches each of the transitions from a up to b, and each step of it one of them
abbrev pub WordPasses : (keys relation body : List ℕ) → (word a b : ℕ) → Type 0
WordPasses keys relation body word a b = Passing (StepFits keys relation body) a b word word

-- 43 to 45 pass for u, which has the steps of the word, and v
abbrev pub PairPassesBy : (keys relation body begins : List ℕ) → (word u v : ℕ) → Type 0
PairPassesBy keys relation body begins word u v =
    EndsAgree u v × WordPasses keys relation body word (get_or begins v 0) (get_or begins (v + 1) 0)

-- for u and all that it is related to
abbrev pub RowPassesBy : (keys relation body begins : List ℕ) → (word u : ℕ) → Type 0
RowPassesBy keys relation body begins word u = (v : ℕ) → Related relation u v
    → PairPassesBy keys relation body begins word u v

-- for the first n rows
abbrev pub RowsPassBy : (keys words relation body begins : List ℕ) → ℕ → Type 0
RowsPassBy keys words relation body begins n = (u : ℕ) → u < n
    → RowPassesBy keys relation body begins (get_or words u 0) u
