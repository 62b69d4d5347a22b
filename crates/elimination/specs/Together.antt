-- Taking out several loops together (document 02, C-12), as tests that run: the answer, and the standing bytes after
-- the call.
use Rattle.std.specs.Prelude.{ℕ, ◌%◌, Bool, false, cond, ◌&&◌, ◌||◌, not, List, [], ◌∷◌, eqb, leb, length, Result, Err}
use Rattle.theory.specs.Tests.{some_in}
use Rattle.theory.specs.Orders.{Pair}
use Rattle.theory.specs.MultiSteps.{GroupAnswer, single, refused_57}
use Rattle.theory.specs.RemovalTests.{group_answer}
use Rattle.report.specs.declared.Refusal.{Refusal}
use Rattle.report.specs.declared.Refusal.TheVariants.{StartInside, LoopList}
use Rattle.chart.specs.Bodies.{vertices_of}
use Rattle.report.specs.Stages.{when_done}
use Rattle.elimination.specs.Removals.{removed_as, on_fits, stands_test, cleared_from}

-- the loops of a list of bytes, two each: the start, then the level
unfoldable pub loops_of : List ℕ → List Pair
loops_of [] = []
loops_of (v ∷ []) = []
loops_of (v ∷ l ∷ bytes) = (v, l) ∷ loops_of bytes

-- a loop stands twice
unfoldable pub twice_test : List Pair → Bool
twice_test [] = false
twice_test (c ∷ cs) = some_in (λ d. eqb c.0 d.0 && eqb c.1 d.1) cs || twice_test cs

-- 56 passes
unfoldable pub loop_list_test : List ℕ → Bool
loop_list_test loops = eqb (length loops % 2) 0 && (leb (length loops) 128 && not (twice_test (loops_of loops)))

-- document 02's answer for each answer of the rule
abbrev pub together_as : GroupAnswer → Result Unit Refusal
together_as (single a) = removed_as a
together_as (refused_57 p) = Err (StartInside p)

module _ (b labels : List ℕ) where
  -- 51, 52 and 57
  unfoldable pub group_of : List Pair → List ℕ → Result Unit Refusal
  group_of cs standing = together_as (group_answer (stands_test b labels standing) (vertices_of b) 256 cs)

  -- the answer to taking out the loops of a list: 20, 21, 30, 50, 56, 51, 52, 57
  unfoldable pub together_of : (loops standing : List ℕ) → Result Unit Refusal
  together_of loops standing = on_fits b labels standing
      (cond (loop_list_test loops) (group_of (loops_of loops) standing) (Err LoopList))

  -- the bytes with 0 for each entry of each loop of a list
  unfoldable pub cleared_all : List Pair → List ℕ → List ℕ
  cleared_all [] standing = standing
  cleared_all ((v, l) ∷ cs) standing = cleared_all cs (cleared_from b labels v l 0 standing)

  -- the standing bytes after the call: the entries of all loops become 0 where it is done
  unfoldable pub left_together : (loops standing : List ℕ) → List ℕ
  left_together loops standing = when_done (together_of loops standing) (cleared_all (loops_of loops) standing) standing
