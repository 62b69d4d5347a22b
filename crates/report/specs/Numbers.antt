-- The number and the values that documents 01 and 02 give to each case of each answer.
use Rattle.std.specs.Prelude.{Bool, cond, ℕ, Result, Ok, Err}
use Rattle.report.specs.declared.Numbers.{Numbers}
use Rattle.report.specs.declared.Refusal.{Refusal}
use Rattle.report.specs.declared.Refusal.TheVariants.{File, Record, RecordKind, FileOffset, NodesLength, Node, NodeUses, ChartHeader, Transition, LabelsLength, Unreached, BranchCycle, LoopNoReturn, LoopEndInside, LoopNotLower, RelationLength, PairNoVertex, PairStarts, PairEnds, PairExpressionStep, PairChartStep, StandingBytes, NoEntry, NotLoop, FollowerSet, OutputLength, NoWay, LoopList, StartInside, TooManyNodes}
use Rattle.report.specs.declared.Accepted.{Accepted}
use Rattle.report.specs.declared.Response.{Response}
use Rattle.report.specs.declared.Response.TheVariants.{Taken, NotPossible, Spoilt}

abbrev pub four : ℕ → ℕ → ℕ → ℕ → Numbers
four n p q r = record { n = n; p = p; q = q; r = r }

abbrev pub refusal_numbers : Refusal → Numbers
refusal_numbers File = four 1 0 0 0
refusal_numbers (Record p) = four 2 p 0 0
refusal_numbers (RecordKind p q) = four 3 p q 0
refusal_numbers (FileOffset p) = four 4 p 0 0
refusal_numbers (NodesLength p) = four 10 p 0 0
refusal_numbers (Node p) = four 11 p 0 0
refusal_numbers (NodeUses p q) = four 12 p q 0
refusal_numbers ChartHeader = four 20 0 0 0
refusal_numbers (Transition p) = four 21 p 0 0
refusal_numbers (LabelsLength p) = four 30 p 0 0
refusal_numbers (Unreached p) = four 31 p 0 0
refusal_numbers (BranchCycle p) = four 32 p 0 0
refusal_numbers (LoopNoReturn p q) = four 33 p q 0
refusal_numbers (LoopEndInside p q) = four 34 p q 0
refusal_numbers (LoopNotLower p q r) = four 35 p q r
refusal_numbers (RelationLength p) = four 40 p 0 0
refusal_numbers (PairNoVertex p q) = four 41 p q 0
refusal_numbers (PairStarts p q) = four 42 p q 0
refusal_numbers (PairEnds p q) = four 43 p q 0
refusal_numbers (PairExpressionStep p q r) = four 44 p q r
refusal_numbers (PairChartStep p q r) = four 45 p q r
refusal_numbers StandingBytes = four 50 0 0 0
refusal_numbers (NoEntry v l) = four 51 v l 0
refusal_numbers (NotLoop v l r) = four 52 v l r
refusal_numbers FollowerSet = four 53 0 0 0
refusal_numbers (OutputLength p) = four 54 p 0 0
refusal_numbers NoWay = four 55 0 0 0
refusal_numbers LoopList = four 56 0 0 0
refusal_numbers (StartInside p) = four 57 p 0 0
refusal_numbers TooManyNodes = four 58 0 0 0

-- the numbers of an answer, or those of the refusal
abbrev pub answer_numbers : {A : Type 0} → (A → Numbers) → Result A Refusal → Numbers
answer_numbers numbers (Ok a) = numbers a
answer_numbers numbers (Err refusal) = refusal_numbers refusal

-- nothing refused: 0
abbrev pub done_numbers : Result Unit Refusal → Numbers
done_numbers = answer_numbers (λ u. four 0 0 0 0)

-- nothing refused: 0, and the length
abbrev pub length_numbers : Result ℕ Refusal → Numbers
length_numbers = answer_numbers (λ length. four 0 length 0 0)

-- nothing refused: 0, and the counts
abbrev pub accepted_numbers : Accepted → Numbers
accepted_numbers a = four 0 a.vertices a.transitions a.loops

-- the counts of vertices, transitions and loops
abbrev pub accepted_with : ℕ → ℕ → ℕ → Accepted
accepted_with v t l = record { vertices = v; transitions = t; loops = l }

abbrev pub verdict_numbers : Result Accepted Refusal → Numbers
verdict_numbers = answer_numbers accepted_numbers

-- 1 for yes, 0 for no
abbrev pub flag : Bool → ℕ
flag b = cond b 1 0

-- nothing refused: 0, then 1 for taken, 0 for not possible and 2 for spoilt, whether the end is in the set, and how many
-- actions are offered; when spoilt no and 0
abbrev pub response_numbers : Response → Numbers
response_numbers (Taken end offered) = four 0 1 (flag end) offered
response_numbers (NotPossible end offered) = four 0 0 (flag end) offered
response_numbers Spoilt = four 0 2 0 0

abbrev pub followed_numbers : Result Response Refusal → Numbers
followed_numbers = answer_numbers response_numbers
