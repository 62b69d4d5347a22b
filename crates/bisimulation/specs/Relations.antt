-- The checks 40 to 45 of a relation between the expression's chart and the file's chart, both given as chart bodies.
use Rattle.std.specs.Prelude.{Bool, cond, ◌&&◌, List, [], ◌++◌, ℕ, zero, suc, ◌*◌, eqb, ltb, leb, length, take, drop, Result, Ok, Err}
use Rattle.theory.specs.Tests.{first_row, lowest}
use Rattle.theory.specs.Relations.{RelationOutcome}
use Rattle.theory.specs.Relations.{related, starts_apart, ends_apart, left_unmatched, right_unmatched}
use Rattle.theory.specs.RelationTests.{RelationTest, relation_outcome}
use Rattle.report.specs.declared.Refusal.{Refusal}
use Rattle.report.specs.declared.Refusal.TheVariants.{RelationLength, PairNoVertex, PairStarts, PairEnds, PairExpressionStep, PairChartStep}
use Rattle.bits.specs.Bits.{has_bit, set_bytes}
use Rattle.chart.specs.Bodies.{vertices_of, start_of}
use Rattle.chart.specs.Systems.{indexed_of}

-- row u of a relation: 16 bytes
abbrev pub row_bytes : List ℕ → ℕ → List ℕ
row_bytes relation u = take 16 (drop (16 * u) relation)

-- the bytes of a relation that a test gives: n rows, from row u on
unfoldable pub rows_from : RelationTest → ℕ → ℕ → List ℕ
rows_from t u zero = []
rows_from t u (suc n) = set_bytes (t u) ++ rows_from t (suc u) n

-- expression vertex u is related to chart vertex v
unfoldable pub related_test : List ℕ → RelationTest
related_test relation u v = has_bit (row_bytes relation u) v

-- 41: a bit for a vertex of V or above
unfoldable pub stray_bit_test : List ℕ → List ℕ → ℕ → ℕ → Bool
stray_bit_test body relation u v = leb (vertices_of body) v && related_test relation u v

-- document 01's answer for each outcome of the checks 42 to 45
abbrev pub relation_stage : List ℕ → List ℕ → RelationOutcome → Result Unit Refusal
relation_stage expression body related = Ok tt
relation_stage expression body starts_apart = Err (PairStarts (start_of expression) (start_of body))
relation_stage expression body (ends_apart p q) = Err (PairEnds p q)
relation_stage expression body (left_unmatched p q r) = Err (PairExpressionStep p q r)
relation_stage expression body (right_unmatched p q r) = Err (PairChartStep p q r)

unfoldable pub relation_outcome_of : List ℕ → List ℕ → List ℕ → RelationOutcome
relation_outcome_of expression body relation =
    relation_outcome (indexed_of expression) (indexed_of body) (related_test relation)
    (vertices_of expression) (vertices_of body)

-- 40, then 41, then 42 to 45. The rows are the vertices of the expression's chart, and 128 columns have a bit
unfoldable pub relation_of : List ℕ → List ℕ → List ℕ → Result Unit Refusal
relation_of expression body relation =
    let u = first_row (stray_bit_test body relation) (vertices_of expression) 128 in
    cond (eqb (length relation) (16 * vertices_of expression))
    (cond (ltb u (vertices_of expression))
    (Err (PairNoVertex u (lowest (stray_bit_test body relation u) 0 128)))
    (relation_stage expression body (relation_outcome_of expression body relation)))
    (Err (RelationLength (length relation)))

-- 40, 41 and 42 alone, which ask only for the number of the expression's vertices and its start
unfoldable pub opening_of : (vertices start : ℕ) → (body relation : List ℕ) → Result Unit Refusal
opening_of vertices start body relation =
    let u = first_row (stray_bit_test body relation) vertices 128 in
    cond (eqb (length relation) (16 * vertices))
    (cond (ltb u vertices)
    (Err (PairNoVertex u (lowest (stray_bit_test body relation u) 0 128)))
    (cond (related_test relation start (start_of body)) (Ok tt) (Err (PairStarts start (start_of body)))))
    (Err (RelationLength (length relation)))
