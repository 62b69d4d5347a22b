-- The check, by the numbers: what document 01 says of each answer `n p q r`, unused places 0, in the order of its list of
-- refusals. A sentence for n has the checks before it pass.
use Rattle.std.specs.Prelude.{◌≡◌, ◌≢◌, ◌⊎◌, false, List, ℕ, suc, ◌+◌, ◌*◌, ◌<◌, length}
use Rattle.theory.specs.Charts.{Steps}
use Rattle.theory.specs.Least.{Least, FirstPair}
use Rattle.theory.specs.Witnesses.{Witness, Connected}
use Rattle.theory.specs.Checks.{Unreached, OnBranchCycle, NotLower}
use Rattle.theory.specs.Systems.{converse}
use Rattle.theory.specs.Relations.{Indexed, Unmatched, AllMatched, EndsAgree}
use Rattle.report.specs.declared.Numbers.{Numbers}
use Rattle.chart.specs.Bodies as chart
use Rattle.chart.specs.Bodies.{vertices_of, start_of, count_of}
use Rattle.chart.specs.Steps.{StepsOf}
use Rattle.expression.specs.Table as nodes
use Rattle.expression.specs.Body.{body_of}
use Rattle.witness.specs.LabellingAnswers as labelling
use Rattle.chart.specs.Systems.{indexed_of}
use Rattle.bisimulation.specs.Answers.{Related, StrayBit, RelationFits}
use Rattle.bisimulation.specs.RelationAnswers.{Comes}
use Rattle.verdict.specs.Files.{end_at, kind_at, offset_of, HasHeader, Whole, RecordsBefore}
use Rattle.verdict.specs.Verdicts.{nodes_in, chart_in, labels_in, relation_in}
use Rattle.promises.specs.Accepted.{Holds}

-- THE RECORDS. Record k, from 0, ends before its header or its body does
abbrev pub Incomplete : List ℕ → ℕ → Type 0
Incomplete f k =
    (length f < offset_of f k + 4)
    ⊎ (HasHeader f (offset_of f k) × (kind_at f (offset_of f k) ≡ suc k) × (length f < end_at f (offset_of f k)))

-- its header is there, and has another kind
abbrev pub WrongKind : List ℕ → ℕ → ℕ → Type 0
WrongKind f k found = HasHeader f (offset_of f k) × (kind_at f (offset_of f k) ≡ found) × (found ≢ suc k)

-- THE NODES, in the body of kind 1. Node p is malformed; node p is not the root and not an operand exactly once
abbrev pub Malformed : List ℕ → ℕ → Type 0
Malformed s p = (p < nodes.count s) × (nodes.is_good (nodes.node s p) ≡ false)

abbrev pub NotUsedOnce : List ℕ → ℕ → Type 0
NotUsedOnce s p = (suc p < nodes.count s) × (nodes.uses_of s p ≢ 1)

-- the place of 11; the place of 12, where no node is malformed
abbrev pub FirstMalformed : List ℕ → ℕ → Type 0
FirstMalformed s p = nodes.Sized s × Least (Malformed s) p

abbrev pub FirstNotUsedOnce : List ℕ → ℕ → Type 0
FirstNotUsedOnce s p = nodes.Sized s × ((k : ℕ) → ¬ Malformed s k) × Least (NotUsedOnce s) p

-- THE STAGES, each with those before it: 1 to 12, then 20 and 21, 30, and 31 to 35
pub record NodesPass (f : List ℕ) : Type 0 where
  pub records : Whole f
  pub nodes : nodes.WellFormed (nodes_in f)

pub record ChartPasses (f : List ℕ) : Type 0 where
  pub before : NodesPass f
  pub chart : chart.WellFormed (chart_in f)

pub record OneLabelEach (f : List ℕ) : Type 0 where
  pub before : ChartPasses f
  pub each : length (labels_in f) ≡ count_of (chart_in f)

-- the transitions under the file's labels
abbrev pub steps_in : List ℕ → Steps
steps_in f = StepsOf (chart_in f) (labels_in f)

abbrev pub UnreachedIn : List ℕ → ℕ → Type 0
UnreachedIn f = Unreached (vertices_of (chart_in f)) (steps_in f) (start_of (chart_in f))

abbrev pub ConnectedIn : List ℕ → Type 0
ConnectedIn f = Connected (vertices_of (chart_in f)) (steps_in f) (start_of (chart_in f))

pub record LabelsPass (f : List ℕ) : Type 0 where
  pub before : OneLabelEach f
  pub connected : ConnectedIn f
  pub witness : Witness (steps_in f) (start_of (chart_in f))

-- THE LOOPS. The checks come to the loop (v, l): 30 to 32 pass, and every earlier loop does; w is in its body
abbrev pub AtLoop : List ℕ → ℕ → ℕ → Type 0
AtLoop f v l = ChartPasses f × labelling.FirstLoop (chart_in f) (labels_in f) v l

abbrev pub InBodyIn : List ℕ → ℕ → ℕ → ℕ → Type 0
InBodyIn f v l w = labelling.InBody (chart_in f) (labels_in f) v l w

-- THE PAIRS, of a vertex of the expression's chart and one of the file's
abbrev pub expression_in : List ℕ → List ℕ
expression_in f = body_of (nodes_in f)

-- 40 and 41 pass; the checks come to the pair (p, q): 42 passes too, it is related, and every earlier pair passes
abbrev pub PairsFit : List ℕ → Type 0
PairsFit f = LabelsPass f × RelationFits (expression_in f) (chart_in f) (relation_in f)

abbrev pub AtPair : List ℕ → ℕ → ℕ → Type 0
AtPair f p q = LabelsPass f × Comes (expression_in f) (chart_in f) (relation_in f) p q

-- the two charts, by the index of their transitions
abbrev pub indexed_expression : List ℕ → Indexed
indexed_expression f = indexed_of (expression_in f)

abbrev pub indexed_chart : List ℕ → Indexed
indexed_chart f = indexed_of (chart_in f)

-- N + 1 rows of 16 bytes
abbrev pub RowsFit : List ℕ → Type 0
RowsFit f = length (relation_in f) ≡ 16 * suc (nodes.count (nodes_in f))

abbrev pub RelatedIn : List ℕ → ℕ → ℕ → Type 0
RelatedIn f = Related (relation_in f)

-- transition i leaves p, or q, and is not matched at the other
abbrev pub LeftUnmatched : List ℕ → ℕ → ℕ → ℕ → Type 0
LeftUnmatched f p q i = Unmatched (indexed_expression f) (indexed_chart f) (RelatedIn f) p q i

abbrev pub RightUnmatched : List ℕ → ℕ → ℕ → ℕ → Type 0
RightUnmatched f p q i = Unmatched (indexed_chart f) (indexed_expression f) (converse (RelatedIn f)) q p i

abbrev pub LeftMatched : List ℕ → ℕ → ℕ → Type 0
LeftMatched f p q = AllMatched (indexed_expression f) (indexed_chart f) (RelatedIn f) p q

-- WHAT EACH ANSWER OF THE CHECK SAYS
pub data Sentence (f : List ℕ) : (n p q r : ℕ) → Type 0 where
  -- nothing is refused: V, T and the number of loops
  says_0 : {v t l : ℕ} → Holds f v t l → Sentence f 0 v t l
  -- the transfer: the file is too long
  says_1 : 43536 < length f → Sentence f 1 0 0 0
  -- header or body incomplete; the record
  says_2 : {k : ℕ} → k < 4 → RecordsBefore f k → Incomplete f k → Sentence f 2 (suc k) 0 0
  -- wrong kind; the record and the kind found
  says_3 : {k found : ℕ} → k < 4 → RecordsBefore f k → WrongKind f k found → Sentence f 3 (suc k) found 0
  -- bytes after record four; their offset
  says_4 : RecordsBefore f 4 → offset_of f 4 < length f → Sentence f 4 (offset_of f 4) 0 0
  -- the sequence's author: not 1 to 127 nodes of four bytes; the length
  says_10 : Whole f → ¬ nodes.Sized (nodes_in f) → Sentence f 10 (length (nodes_in f)) 0 0
  -- malformed node; the lowest
  says_11 : {p : ℕ} → Whole f → FirstMalformed (nodes_in f) p → Sentence f 11 p 0 0
  -- non-root node not used once; the lowest, and its uses
  says_12 : {p : ℕ} → Whole f → FirstNotUsedOnce (nodes_in f) p → Sentence f 12 p (nodes.uses_of (nodes_in f) p) 0
  -- the chart's author: body under 4 bytes, V, start or T out of range, or another length
  says_20 : NodesPass f → ¬ chart.HeaderFits (chart_in f) → Sentence f 20 0 0 0
  -- malformed or unordered transition; the lowest index
  says_21 : {p : ℕ} → NodesPass f → chart.HeaderFits (chart_in f) → Least (chart.Faulty (chart_in f)) p
      → Sentence f 21 p 0 0
  -- the labeller: not one byte a transition; the length
  says_30 : ChartPasses f → length (labels_in f) ≢ count_of (chart_in f) → Sentence f 30 (length (labels_in f)) 0 0
  -- unreached vertex; the lowest
  says_31 : {p : ℕ} → OneLabelEach f → Least (UnreachedIn f) p → Sentence f 31 p 0 0
  -- vertex on a branch cycle, all being reached; the lowest
  says_32 : {p : ℕ} → OneLabelEach f → ConnectedIn f → Least (OnBranchCycle (steps_in f)) p → Sentence f 32 p 0 0
  -- then by vertex and level: no way back
  says_33 : {v l : ℕ} → AtLoop f v l → ¬ InBodyIn f v l v → Sentence f 33 v l 0
  -- the end in the body
  says_34 : {v l : ℕ} → AtLoop f v l → InBodyIn f v l v → InBodyIn f v l 0 → Sentence f 34 v l 0
  -- entry of equal or higher level at a body vertex r other than v; the lowest
  says_35 : {v l r : ℕ} → AtLoop f v l → InBodyIn f v l v → ¬ InBodyIn f v l 0 → Least (NotLower (steps_in f) v l) r
      → Sentence f 35 v l r
  -- the relation's author: not N + 1 rows of 16 bytes; the length
  says_40 : LabelsPass f → ¬ RowsFit f → Sentence f 40 (length (relation_in f)) 0 0
  -- bit for a vertex of V or above; the first, by row and then by column
  says_41 : {p q : ℕ} → LabelsPass f → RowsFit f → FirstPair (StrayBit (chart_in f) (relation_in f)) p q
      → Sentence f 41 p q 0
  -- starts unrelated; row N and the start
  says_42 : PairsFit f → ¬ RelatedIn f (nodes.count (nodes_in f)) (start_of (chart_in f))
      → Sentence f 42 (nodes.count (nodes_in f)) (start_of (chart_in f)) 0
  -- then by row and column: one is the end, the other not
  says_43 : {p q : ℕ} → AtPair f p q → ¬ EndsAgree p q → Sentence f 43 p q 0
  -- expression transition r unmatched; the lowest index
  says_44 : {p q r : ℕ} → AtPair f p q → EndsAgree p q → Least (LeftUnmatched f p q) r → Sentence f 44 p q r
  -- chart transition r unmatched, those of the expression's chart being matched; the lowest index
  says_45 : {p q r : ℕ} → AtPair f p q → EndsAgree p q → LeftMatched f p q → Least (RightUnmatched f p q) r
      → Sentence f 45 p q r

-- the sentence for four numbers that are given as one value
abbrev pub SentenceFor : List ℕ → Numbers → Type 0
SentenceFor f k = Sentence f k.n k.p k.q k.r
