-- The checks 31 to 35 as a test that runs, of any labelled chart whose transitions are tested by s: from, label, to.
-- Vertices are below size, labels below top.
use Rattle.std.specs.Prelude.{Bool, true, false, cond, ◌&&◌, not, List, ℕ, eqb, ltb, leb}
use Rattle.theory.specs.Tests.{some_below, lowest, first_row, pairs}
use Rattle.theory.specs.Reachability.{reaches, leads_to}
use Rattle.theory.specs.Checks.{Outcome, passes, unreached, branch_cycle, no_return, end_inside, not_lower}

abbrev pub StepTest : Type 0
StepTest = ℕ → ℕ → ℕ → Bool

-- the chart of a loop: v has its entries, every other vertex its other transitions
abbrev pub round_test : ℕ → (ℕ → Bool) → (ℕ → ℕ → Bool) → ℕ → ℕ → Bool
round_test v entry other u w = cond (eqb u v) (entry w) (other u w)

-- some check fails
abbrev pub failed : Outcome → Bool
failed passes = false
failed (unreached p) = true
failed (branch_cycle p) = true
failed (no_return v l) = true
failed (end_inside v l) = true
failed (not_lower v l r) = true

module _ (s : StepTest) (size top : ℕ) where
  unfoldable pub any_test : ℕ → ℕ → Bool
  any_test u w = some_below (λ l. s u l w) top

  unfoldable pub loop_test : ℕ → ℕ → Bool
  loop_test v l = ltb 0 l && some_below (λ w. s v l w) size

  -- the loops, by vertex and then by level
  unfoldable pub loop_list : List (ℕ × ℕ)
  loop_list = pairs loop_test size top

  -- w is in the body of the loop (v, l)
  unfoldable pub body_test : ℕ → ℕ → ℕ → Bool
  body_test v l w = leads_to (round_test v (s v l) (λ u x. s u 0 x)) size v w

  unfoldable pub unreached_test : ℕ → ℕ → Bool
  unreached_test start w = ltb 0 w && (ltb w size && not (reaches any_test size (λ u. eqb u start) w))

  unfoldable pub cycle_test : ℕ → Bool
  cycle_test w = leads_to (λ u x. s u 0 x) size w w

  unfoldable pub not_lower_test : ℕ → ℕ → ℕ → Bool
  not_lower_test v l r = not (eqb r v) && (body_test v l r && some_below (λ m. loop_test r m && leb l m) top)

  -- 33, 34 and 35 of one loop
  unfoldable pub loop_outcome : ℕ → ℕ → Outcome
  loop_outcome v l =
      let r = lowest (not_lower_test v l) 0 size in
      cond (not (body_test v l v)) (no_return v l)
      (cond (body_test v l 0) (end_inside v l)
      (cond (ltb r size) (not_lower v l r) passes))

  unfoldable pub failing_test : ℕ → ℕ → Bool
  failing_test v l = loop_test v l && failed (loop_outcome v l)

  -- the first loop that fails, by vertex and then by level
  unfoldable pub loops_outcome : Outcome
  loops_outcome =
      let v = first_row failing_test size top in
      cond (ltb v size) (loop_outcome v (lowest (failing_test v) 0 top)) passes

  -- the checks in their order
  unfoldable pub outcome : ℕ → Outcome
  outcome start =
      let p = lowest (unreached_test start) 0 size in
      let c = lowest cycle_test 0 size in
      cond (ltb p size) (unreached p) (cond (ltb c size) (branch_cycle c) loops_outcome)
