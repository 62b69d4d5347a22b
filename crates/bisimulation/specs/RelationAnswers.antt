-- What document 01 says of each answer of 40 to 45.
use Rattle.std.specs.Prelude.{◌≡◌, ◌≢◌, List, ℕ, ◌*◌, length, Result, Ok, Err}
use Rattle.theory.specs.Least.{Least, Earlier, FirstPair}
use Rattle.theory.specs.Systems.{Bisimulation, converse}
use Rattle.theory.specs.Relations.{Unmatched, AllMatched, EndsAgree}
use Rattle.report.specs.declared.Refusal.{Refusal}
use Rattle.report.specs.declared.Refusal.TheVariants.{RelationLength, PairNoVertex, PairStarts, PairEnds, PairExpressionStep, PairChartStep}
use Rattle.chart.specs.Bodies.{vertices_of, start_of}
use Rattle.chart.specs.Systems.{system_of, indexed_of}
use Rattle.bisimulation.specs.Answers.{Related, StrayBit, RelationFits, Passes}

-- 40 to 42 pass, (p, q) is related, and every earlier related pair passes
pub record Comes (expression body relation : List ℕ) (p q : ℕ) : Type 0 where
  pub fits : RelationFits expression body relation
  pub starts : Related relation (start_of expression) (start_of body)
  pub related : Related relation p q
  pub earlier : (u v : ℕ) → Earlier u v p q → Related relation u v → Passes expression body relation u v

module _ (expression body relation : List ℕ) where
  -- transition r of the expression's chart is the lowest that nothing matches at (p, q); the same of the file's chart
  abbrev pub FirstOfExpression : (p q r : ℕ) → Type 0
  FirstOfExpression p q = Least (Unmatched (indexed_of expression) (indexed_of body) (Related relation) p q)

  abbrev pub FirstOfChart : (p q r : ℕ) → Type 0
  FirstOfChart p q = Least (Unmatched (indexed_of body) (indexed_of expression) (converse (Related relation)) q p)

  -- each answer, with its place
  pub data RelationAnswer : Result Unit Refusal → Type 0 where
    -- every bit is one of a vertex, and the bits are a bisimulation of the two charts
    passed : RelationFits expression body relation
        → Bisimulation (system_of expression) (system_of body) (Related relation)
        → RelationAnswer (Ok tt)
    -- 40
    other_length : length relation ≢ 16 * vertices_of expression
        → RelationAnswer (Err (RelationLength (length relation)))
    -- 41
    no_vertex : {p q : ℕ} → length relation ≡ 16 * vertices_of expression → FirstPair (StrayBit body relation) p q
        → RelationAnswer (Err (PairNoVertex p q))
    -- 42
    starts_unrelated : RelationFits expression body relation → ¬ Related relation (start_of expression) (start_of body)
        → RelationAnswer (Err (PairStarts (start_of expression) (start_of body)))
    -- 43
    other_end : {p q : ℕ} → Comes expression body relation p q → ¬ EndsAgree p q
        → RelationAnswer (Err (PairEnds p q))
    -- 44
    expression_alone : {p q r : ℕ} → Comes expression body relation p q → EndsAgree p q → FirstOfExpression p q r
        → RelationAnswer (Err (PairExpressionStep p q r))
    -- 45
    chart_alone : {p q r : ℕ} → Comes expression body relation p q → EndsAgree p q
        → AllMatched (indexed_of expression) (indexed_of body) (Related relation) p q → FirstOfChart p q r
        → RelationAnswer (Err (PairChartStep p q r))
