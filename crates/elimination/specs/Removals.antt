-- Taking out a loop, as tests that run: the answer, and the standing bytes after the call.
use Rattle.std.specs.Prelude.{ℕ, suc, Bool, cond, ◌&&◌, not, List, [], ◌∷◌, eqb, ltb, length, get_or, Result, Ok, Err}
use Rattle.theory.specs.Tests.{some_below}
use Rattle.theory.specs.LabellingTests.{StepTest}
use Rattle.theory.specs.Removals.{Answer, done, refused_51, refused_52}
use Rattle.theory.specs.RemovalTests.{rule_answer}
use Rattle.report.specs.Stages.{after, when_done}
use Rattle.report.specs.declared.Refusal.{Refusal}
use Rattle.report.specs.declared.Refusal.TheVariants.{LabelsLength, StandingBytes, NoEntry, NotLoop}
use Rattle.chart.specs.Bodies.{vertices_of, count_of, from_of, to_of}
use Rattle.chart.specs.Checks.{check_of}

-- document 01's answer for each answer of the rule
abbrev pub removed_as : Answer → Result Unit Refusal
removed_as done = Ok tt
removed_as (refused_51 v l) = Err (NoEntry v l)
removed_as (refused_52 v l r) = Err (NotLoop v l r)

-- 50 passes: a byte a transition, each 0 or 1
unfoldable pub standing_test : List ℕ → List ℕ → Bool
standing_test b standing =
    eqb (length standing) (count_of b) && not (some_below (λ i. ltb 1 (get_or standing i 0)) (count_of b))

-- 20, 21, 30 and 50 first
abbrev pub on_fits : (b labels standing : List ℕ) → Result Unit Refusal → Result Unit Refusal
on_fits b labels standing a =
    after (check_of b)
    (cond (eqb (length labels) (count_of b))
    (cond (standing_test b standing) a (Err StandingBytes))
    (Err (LabelsLength (length labels))))

module _ (b labels : List ℕ) where
  -- some transition with the label l that stands leads from u to w
  unfoldable pub stands_test : List ℕ → StepTest
  stands_test standing u l w = some_below (λ i.
      eqb (from_of b i) u && (eqb (get_or labels i 0) l && (eqb (to_of b i) w && eqb (get_or standing i 0) 1))) (count_of b)

  -- 51 and 52
  unfoldable pub ruled_of : ℕ → ℕ → List ℕ → Result Unit Refusal
  ruled_of v l standing = removed_as (rule_answer (stands_test standing) (vertices_of b) 256 v l)

  -- the answer to taking out (v, l): 20, 21, 30, 50, 51, 52
  unfoldable pub removal_of : ℕ → ℕ → List ℕ → Result Unit Refusal
  removal_of v l standing = on_fits b labels standing (ruled_of v l standing)

  -- the bytes of the transitions from i on, with 0 where one leaves v with the label l
  unfoldable pub cleared_from : ℕ → ℕ → ℕ → List ℕ → List ℕ
  cleared_from v l i [] = []
  cleared_from v l i (s ∷ ss) =
      cond (eqb (from_of b i) v && eqb (get_or labels i 0) l) 0 s ∷ cleared_from v l (suc i) ss

  -- the standing bytes after the call: the entries of the loop become 0 where it is done
  unfoldable pub left_of : ℕ → ℕ → List ℕ → List ℕ
  left_of v l standing = when_done (removal_of v l standing) (cleared_from v l 0 standing) standing

  -- a list of calls, each on the bytes that the one before left: the answers, and the bytes after the list
  unfoldable pub answers_of : List (ℕ × ℕ) → List ℕ → List (Result Unit Refusal)
  answers_of [] standing = []
  answers_of ((v, l) ∷ calls) standing = removal_of v l standing ∷ answers_of calls (left_of v l standing)

  unfoldable pub left_after : List (ℕ × ℕ) → List ℕ → List ℕ
  left_after [] standing = standing
  left_after ((v, l) ∷ calls) standing = left_after calls (left_of v l standing)
