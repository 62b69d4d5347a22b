-- What the stages of the checks 40 to 45 answer: the contracts of the code.
use Rattle.std.specs.Prelude.{◌≡◌, true, List, ℕ, ◌*◌, ◌≤◌, ◌<◌, length, Result, Ok, Err}
use Rattle.theory.specs.Least.{FirstPair}
use Rattle.theory.specs.Relations.{PairPasses, PairFails, RelationOutcome, RelationChecked}
use Rattle.report.specs.declared.Refusal.{Refusal}
use Rattle.report.specs.declared.Refusal.TheVariants.{PairNoVertex}
use Rattle.bits.specs.declared.sets.Set.{Set}
use Rattle.bits.specs.Sets.{Has}
use Rattle.chart.specs.Bodies.{vertices_of, start_of}
use Rattle.chart.specs.Checks.{check_of}
use Rattle.chart.specs.Numbered.{Lists, Numbered}
use Rattle.chart.specs.Systems.{indexed_of}
use Rattle.bisimulation.specs.Relations.{related_test, relation_stage, relation_of}

-- expression vertex u is related to chart vertex v
abbrev pub Related : List ℕ → ℕ → ℕ → Type 0
Related relation u v = related_test relation u v ≡ true

-- 41: a bit for a vertex of V or above
abbrev pub StrayBit : List ℕ → List ℕ → ℕ → ℕ → Type 0
StrayBit body relation u v = (vertices_of body ≤ v) × Related relation u v

-- 40 and 41 pass
pub record RelationFits (expression body relation : List ℕ) : Type 0 where
  pub whole : length relation ≡ 16 * vertices_of expression
  pub inside : (u v : ℕ) → Related relation u v → (u < vertices_of expression) × (v < vertices_of body)

-- what 41 answers
pub record StrayAnswer (body relation : List ℕ) (s : Result Unit Refusal) : Type 0 where
  pub passed : s ≡ Ok tt → (u v : ℕ) → ¬ StrayBit body relation u v
  pub refused : (p : Refusal) → s ≡ Err p
      → (u v : ℕ) × FirstPair (StrayBit body relation) u v × (s ≡ Err (PairNoVertex u v))

module _ (expression body relation : List ℕ) where
  -- 43 to 45 pass for one pair
  abbrev pub Passes : ℕ → ℕ → Type 0
  Passes u v = PairPasses (indexed_of expression) (indexed_of body) (Related relation) u v

  -- 43 to 45 pass for each related pair of a chart vertex outside the set
  abbrev pub PassOutside : Set → Type 0
  PassOutside r = (u v : ℕ) → Related relation u v → ¬ Has r v → Passes u v

  -- some outcome of a pair that fails stands for this answer
  abbrev pub FailsWith : ℕ → ℕ → Result Unit Refusal → Type 0
  FailsWith u v s = (o : RelationOutcome)
      × PairFails (indexed_of expression) (indexed_of body) (Related relation) u v o
      × (s ≡ relation_stage expression body o)

  -- what 43 to 45 answer for one pair
  pub record PairAnswer (u v : ℕ) (s : Result Unit Refusal) : Type 0 where
    pub passed : s ≡ Ok tt → Related relation u v → Passes u v
    pub refused : (p : Refusal) → s ≡ Err p → Related relation u v × FailsWith u v s

  -- the first pair of row u that fails is that of column v
  pub record FirstFails (u v : ℕ) (s : Result Unit Refusal) : Type 0 where
    pub related : Related relation u v
    pub before : (w : ℕ) → w < v → Related relation u w → Passes u w
    pub fails : FailsWith u v s

  -- what they answer for the pairs of row u, by column
  pub record RowAnswer (u : ℕ) (s : Result Unit Refusal) : Type 0 where
    pub passed : s ≡ Ok tt → (v : ℕ) → Related relation u v → Passes u v
    pub refused : (p : Refusal) → s ≡ Err p → (v : ℕ) × FirstFails u v s

  -- what 42 to 45 answer
  abbrev pub CheckedAnswer : Result Unit Refusal → Type 0
  CheckedAnswer s = (o : RelationOutcome)
      × RelationChecked (indexed_of expression) (indexed_of body) (Related relation) o
      × (s ≡ relation_stage expression body o)

-- the expression's chart has so many vertices and these steps, and 40 to 42 pass
pub record ListedChart (keys words : List ℕ) (m vertices : ℕ) (body relation expression : List ℕ) : Type 0 where
  pub passes : check_of expression ≡ Ok tt
  pub size : vertices_of expression ≡ vertices
  pub lists : Lists expression keys words m
  pub fits : RelationFits expression body relation
  pub starts : Related relation (start_of expression) (start_of body)

-- the same with these numbers of its steps
pub record NumberedChart (keys words : List ℕ) (m vertices : ℕ) (body relation expression : List ℕ) : Type 0 where
  pub passes : check_of expression ≡ Ok tt
  pub size : vertices_of expression ≡ vertices
  pub numbered : Numbered expression keys words m
  pub fits : RelationFits expression body relation
  pub starts : Related relation (start_of expression) (start_of body)

-- there is a chart with these steps
abbrev pub SomeListed : (keys words : List ℕ) → (m vertices : ℕ) → (body relation : List ℕ) → Type 0
SomeListed keys words m vertices body relation = (e : List ℕ) × ListedChart keys words m vertices body relation e

-- there is one with these numbers of its steps, for which every pair outside the set passes
abbrev pub SomeNumbered : (keys words : List ℕ) → (m vertices : ℕ) → (body relation : List ℕ) → Set → Type 0
SomeNumbered keys words m vertices body relation suspects =
    (e : List ℕ) × NumberedChart keys words m vertices body relation e × PassOutside e body relation suspects

-- outside the set every pair passes, for every chart with these steps
abbrev pub Doubtful : (keys words : List ℕ) → (m vertices : ℕ) → (body relation : List ℕ) → Set → Type 0
Doubtful keys words m vertices body relation r =
    (e : List ℕ) → ListedChart keys words m vertices body relation e → PassOutside e body relation r

-- what 43 to 45 answer, for every chart with these numbers for which every pair outside the set passes
abbrev pub PairsAnswer : (keys words : List ℕ) → (m vertices : ℕ) → (body relation : List ℕ) → Set → Result Unit Refusal → Type 0
PairsAnswer keys words m vertices body relation suspects s =
    (e : List ℕ) → NumberedChart keys words m vertices body relation e → PassOutside e body relation suspects
    → s ≡ relation_of e body relation
