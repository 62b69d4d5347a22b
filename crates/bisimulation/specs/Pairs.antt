-- 43 to 45 of the pairs that the sets leave: what the search is given, and what it answers.
use Rattle.std.specs.Prelude.{◌≡◌, List, ℕ, ◌<◌, Result}
use Rattle.report.specs.declared.Refusal.{Refusal}
use Rattle.bits.specs.Words.{On}
use Rattle.bits.specs.Tables.{HasRow}
use Rattle.chart.specs.Bodies.{vertices_of, start_of, WellFormed}
use Rattle.chart.specs.Numbered.{Numbered}
use Rattle.bisimulation.specs.Answers.{Related, RelationFits, Passes, PairAnswer, RowAnswer, CheckedAnswer}
use Rattle.bisimulation.specs.Suspects.{Into, Acting, Match}

-- no step of the word matches transition i
abbrev pub Alone : (into acting body : List ℕ) → (steps i : ℕ) → Type 0
Alone into acting body steps i = (k : ℕ) → On steps k → ¬ Match into acting body i k

-- the tables are those of the numbers of e's steps, and of a relation
pub record StepTables (into acting words e relation : List ℕ) : Type 0 where
  pub formed : WellFormed e
  pub keys : List ℕ
  pub m : ℕ
  pub numbered : Numbered e keys words m
  pub spread : Into relation keys m into
  pub acts : Acting keys m acting

-- and the table's sets have only related pairs, and each that 43, 44 or 45 refuses
pub record Sought (into acting words table body e relation : List ℕ) : Type 0 where
  pub tables : StepTables into acting words e relation
  pub fits : RelationFits e body relation
  pub given : (u v : ℕ) → v < vertices_of body → HasRow table v u → Related relation u v
  pub others : (u v : ℕ) → Related relation u v → ¬ HasRow table v u → Passes e body relation u v

-- what 43 to 45 answer of every such chart and relation: for a related pair, for a pair, for a row, and for all
abbrev pub RelatedAnswer : (into acting words body : List ℕ) → (u v : ℕ) → Result Unit Refusal → Type 0
RelatedAnswer into acting words body u v s = (e relation : List ℕ) → StepTables into acting words e relation
    → Related relation u v → PairAnswer e body relation u v s

abbrev pub PairSought : (into acting words table body : List ℕ) → (u v : ℕ) → Result Unit Refusal → Type 0
PairSought into acting words table body u v s = (e relation : List ℕ) → Sought into acting words table body e relation
    → PairAnswer e body relation u v s

abbrev pub RowSought : (into acting words table body : List ℕ) → ℕ → Result Unit Refusal → Type 0
RowSought into acting words table body u s = (e relation : List ℕ) → Sought into acting words table body e relation
    → RowAnswer e body relation u s

abbrev pub AllSought : (into acting words table body : List ℕ) → ℕ → Result Unit Refusal → Type 0
AllSought into acting words table body vertices s = (e relation : List ℕ)
    → Sought into acting words table body e relation
    → vertices_of e ≡ vertices
    → Related relation (start_of e) (start_of body)
    → CheckedAnswer e body relation s
