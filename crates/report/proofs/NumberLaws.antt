-- The four numbers determine the answer: no two refusals have the same, and none has those of an answer that refuses
-- nothing.
use mathlib.Core.Path.{◌≡◌, refl, sym, ◌∙◌, ap}
use mathlib.Core.Logic.{◌≢◌, by_cases}
use mathlib.Core.Bool.{Bool, true, false, cond, ◌&&◌, ◌||◌, true≢false}
use Prim.Native.Nat.{ℕ, ◌<◌}
use native.Mathlib.Decide.{ℕ_discrete}
use native.Mathlib.Omega.{arith}
use lib.Dec.{eqb, ltb}
use Rattle.std.specs.Prelude.{Result, Ok, Err, MatchResult}
use Rattle.report.specs.Numbers.{refusal_numbers, answer_numbers, done_numbers, length_numbers, accepted_numbers, verdict_numbers, flag, response_numbers, followed_numbers}
use Rattle.report.specs.declared.Numbers.{Numbers}
use Rattle.report.specs.declared.Refusal.{Refusal}
use Rattle.report.specs.declared.Refusal.TheVariants.{File, Record, RecordKind, FileOffset, NodesLength, Node, NodeUses, ChartHeader, Transition, LabelsLength, Unreached, BranchCycle, LoopNoReturn, LoopEndInside, LoopNotLower, RelationLength, PairNoVertex, PairStarts, PairEnds, PairExpressionStep, PairChartStep, StandingBytes, NoEntry, NotLoop, FollowerSet, OutputLength, NoWay, LoopList, StartInside, TooManyNodes}
use Rattle.report.specs.declared.Accepted.{Accepted}
use Rattle.report.specs.declared.Response.{Response}
use Rattle.report.specs.declared.Response.TheVariants.{Taken, NotPossible, Spoilt}

-- the refusal that has these numbers
refusal_at : Numbers → Refusal
refusal_at k =
    cond (eqb k.n 1) File
    (cond (eqb k.n 2) (Record k.p)
    (cond (eqb k.n 3) (RecordKind k.p k.q)
    (cond (eqb k.n 4) (FileOffset k.p)
    (cond (eqb k.n 10) (NodesLength k.p)
    (cond (eqb k.n 11) (Node k.p)
    (cond (eqb k.n 12) (NodeUses k.p k.q)
    (cond (eqb k.n 20) ChartHeader
    (cond (eqb k.n 21) (Transition k.p)
    (cond (eqb k.n 30) (LabelsLength k.p)
    (cond (eqb k.n 31) (Unreached k.p)
    (cond (eqb k.n 32) (BranchCycle k.p)
    (cond (eqb k.n 33) (LoopNoReturn k.p k.q)
    (cond (eqb k.n 34) (LoopEndInside k.p k.q)
    (cond (eqb k.n 35) (LoopNotLower k.p k.q k.r)
    (cond (eqb k.n 40) (RelationLength k.p)
    (cond (eqb k.n 41) (PairNoVertex k.p k.q)
    (cond (eqb k.n 42) (PairStarts k.p k.q)
    (cond (eqb k.n 43) (PairEnds k.p k.q)
    (cond (eqb k.n 44) (PairExpressionStep k.p k.q k.r)
    (cond (eqb k.n 45) (PairChartStep k.p k.q k.r)
    (cond (eqb k.n 50) StandingBytes
    (cond (eqb k.n 51) (NoEntry k.p k.q)
    (cond (eqb k.n 52) (NotLoop k.p k.q k.r)
    (cond (eqb k.n 53) FollowerSet
    (cond (eqb k.n 54) (OutputLength k.p)
    (cond (eqb k.n 55) NoWay
    (cond (eqb k.n 56) LoopList
    (cond (eqb k.n 57) (StartInside k.p)
    TooManyNodes))))))))))))))))))))))))))))

refusal_at_numbers : (x : Refusal) → refusal_at (refusal_numbers x) ≡ x
unfolding refusal_at
refusal_at_numbers File = refl
refusal_at_numbers (Record p) = refl
refusal_at_numbers (RecordKind p q) = refl
refusal_at_numbers (FileOffset p) = refl
refusal_at_numbers (NodesLength p) = refl
refusal_at_numbers (Node p) = refl
refusal_at_numbers (NodeUses p q) = refl
refusal_at_numbers ChartHeader = refl
refusal_at_numbers (Transition p) = refl
refusal_at_numbers (LabelsLength p) = refl
refusal_at_numbers (Unreached p) = refl
refusal_at_numbers (BranchCycle p) = refl
refusal_at_numbers (LoopNoReturn p q) = refl
refusal_at_numbers (LoopEndInside p q) = refl
refusal_at_numbers (LoopNotLower p q r) = refl
refusal_at_numbers (RelationLength p) = refl
refusal_at_numbers (PairNoVertex p q) = refl
refusal_at_numbers (PairStarts p q) = refl
refusal_at_numbers (PairEnds p q) = refl
refusal_at_numbers (PairExpressionStep p q r) = refl
refusal_at_numbers (PairChartStep p q r) = refl
refusal_at_numbers StandingBytes = refl
refusal_at_numbers (NoEntry p q) = refl
refusal_at_numbers (NotLoop p q r) = refl
refusal_at_numbers FollowerSet = refl
refusal_at_numbers (OutputLength p) = refl
refusal_at_numbers NoWay = refl
refusal_at_numbers LoopList = refl
refusal_at_numbers (StartInside p) = refl
refusal_at_numbers TooManyNodes = refl

numbered : (x : Refusal) → 0 < (refusal_numbers x).n
unfolding refusal_at
numbered x = by_cases (ℕ_discrete (refusal_numbers x).n 0)
    (λ e.
    let at_0 : refusal_at (refusal_numbers x) ≡ TooManyNodes = rw e in
    let n : (refusal_numbers x).n ≡ 58 = ap (λ y. (refusal_numbers y).n) (sym (refusal_at_numbers x) ∙ at_0) in
    omega (arith, e, n))
    (λ n. omega (arith, n))

-- the numbers of what is refused by a file, a state and the length of what is lent: below 50, 53 and 54
placed : ℕ → Bool
placed n = ltb 0 n && (ltb n 50 || (eqb n 53 || eqb n 54))

-- those refusals; the others are of one call each
of_place : Refusal → Bool
of_place StandingBytes = false
of_place (NoEntry p q) = false
of_place (NotLoop p q r) = false
of_place NoWay = false
of_place LoopList = false
of_place (StartInside p) = false
of_place TooManyNodes = false
of_place x = true

is_placed : (x : Refusal) → placed (refusal_numbers x).n ≡ of_place x
unfolding placed of_place
is_placed File = refl
is_placed (Record p) = refl
is_placed (RecordKind p q) = refl
is_placed (FileOffset p) = refl
is_placed (NodesLength p) = refl
is_placed (Node p) = refl
is_placed (NodeUses p q) = refl
is_placed ChartHeader = refl
is_placed (Transition p) = refl
is_placed (LabelsLength p) = refl
is_placed (Unreached p) = refl
is_placed (BranchCycle p) = refl
is_placed (LoopNoReturn p q) = refl
is_placed (LoopEndInside p q) = refl
is_placed (LoopNotLower p q r) = refl
is_placed (RelationLength p) = refl
is_placed (PairNoVertex p q) = refl
is_placed (PairStarts p q) = refl
is_placed (PairEnds p q) = refl
is_placed (PairExpressionStep p q r) = refl
is_placed (PairChartStep p q r) = refl
is_placed StandingBytes = refl
is_placed (NoEntry p q) = refl
is_placed (NotLoop p q r) = refl
is_placed FollowerSet = refl
is_placed (OutputLength p) = refl
is_placed NoWay = refl
is_placed LoopList = refl
is_placed (StartInside p) = refl
is_placed TooManyNodes = refl

-- none of them has another number
not_place : (x : Refusal) (n : ℕ) → of_place x ≡ true → placed n ≡ false → (refusal_numbers x).n ≢ n
not_place x n p h e = true≢false (sym (is_placed x ∙ p) ∙ ap placed e ∙ h)

-- NO TWO REFUSALS HAVE THE SAME FOUR NUMBERS
pub one_refusal : (x y : Refusal) → refusal_numbers x ≡ refusal_numbers y → x ≡ y
one_refusal x y e = sym (refusal_at_numbers x) ∙ ap refusal_at e ∙ refusal_at_numbers y

-- AND NO TWO ANSWERS OF A CALL: its values are told from one another by their numbers, of which the first is 0
module _ {A : Type 0} (numbers : A → Numbers) (zero_first : (a : A) → (numbers a).n ≡ 0)
    (told : (a b : A) → numbers a ≡ numbers b → a ≡ b) where
  apart : (a : A) (y : Refusal) → numbers a ≡ refusal_numbers y → ⊥
  apart a y e = omega (arith, numbered y, ap (λ (k : Numbers). k.n) e, zero_first a)

  pub one_answer : (x y : Result A Refusal) → answer_numbers numbers x ≡ answer_numbers numbers y → x ≡ y
  one_answer (Ok a) (Ok b) e = ap Ok (told a b e)
  one_answer (Ok a) (Err y) e = absurd (apart a y e)
  one_answer (Err x) (Ok b) e = absurd (apart b x (sym e))
  one_answer (Err x) (Err y) e = ap Err (one_refusal x y e)

-- the verdicts
pub one_verdict : (x y : Result Accepted Refusal) → verdict_numbers x ≡ verdict_numbers y → x ≡ y
one_verdict = one_answer accepted_numbers (λ a. refl) (λ a b e. ap back e)
  where
    back : Numbers → Accepted
    back k = record { vertices = k.p; transitions = k.q; loops = k.r }

-- the lengths of what is written: the expression's chart, the shortest way, the expression of a chart
pub one_length : (x y : Result ℕ Refusal) → length_numbers x ≡ length_numbers y → x ≡ y
one_length = one_answer (λ length. record { n = 0; p = length; q = 0; r = 0 }) (λ a. refl) (λ a b e. ap (λ (k : Numbers). k.p) e)

-- the removals, of one loop or of several together
pub one_removal : (x y : Result Unit Refusal) → done_numbers x ≡ done_numbers y → x ≡ y
one_removal = one_answer (λ u. record { n = 0; p = 0; q = 0; r = 0 }) (λ a. refl) (λ a b e. refl)

-- only a start inside has 57
pub only_57 : (x : Result Unit Refusal) → (done_numbers x).n ≡ 57 → x ≡ Err (StartInside (done_numbers x).p)
unfolding refusal_at
only_57 (Ok u) e = absurd (true≢false (ap (λ n. eqb n 0) e))
only_57 (Err x) e = ap Err (sym (refusal_at_numbers x) ∙ at_57)
  where
    at_57 : refusal_at (refusal_numbers x) ≡ StartInside (refusal_numbers x).p
    at_57 = rw e

-- the responses of a follower
pub flag_back : (b : Bool) → eqb (flag b) 1 ≡ b
flag_back true = refl
flag_back false = refl

response_at : Numbers → Response
response_at k =
    cond (eqb k.p 1) (Taken (eqb k.q 1) k.r)
    (cond (eqb k.p 2) Spoilt (NotPossible (eqb k.q 1) k.r))

response_at_numbers : (x : Response) → response_at (response_numbers x) ≡ x
unfolding response_at
response_at_numbers (Taken end offered) = ap (λ b. Taken b offered) (flag_back end)
response_at_numbers (NotPossible end offered) = ap (λ b. NotPossible b offered) (flag_back end)
response_at_numbers Spoilt = refl

pub one_followed : (x y : Result Response Refusal) → followed_numbers x ≡ followed_numbers y → x ≡ y
one_followed = one_answer response_numbers first
    (λ x y e. sym (response_at_numbers x) ∙ ap response_at e ∙ response_at_numbers y)
  where
    first : (x : Response) → (response_numbers x).n ≡ 0
    first (Taken end offered) = refl
    first (NotPossible end offered) = refl
    first Spoilt = refl

-- an answer whose numbers are those of its value or of its refusal has its numbers
pub as_answer : {A : Type 0} {k : Numbers} (numbers : A → Numbers) (x : Result A Refusal)
    → MatchResult x (λ a. k ≡ numbers a) (λ refusal. k ≡ refusal_numbers refusal) → k ≡ answer_numbers numbers x
as_answer numbers (Ok a) e = e
as_answer numbers (Err x) e = e
