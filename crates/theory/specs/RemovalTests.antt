-- The answers to a removal as tests that run: by the rule on standing transitions, of one loop and of several together,
-- and of a plain set of loops.
use Rattle.std.specs.Prelude.{Bool, cond, ◌&&◌, ◌||◌, not, List, [], ◌∷◌, ℕ, eqb, ltb, length}
use Rattle.theory.specs.Tests.{some_below, lowest}
use Rattle.theory.specs.Reachability.{leads_to}
use Rattle.theory.specs.LabellingTests.{StepTest, round_test, any_test, loop_test, body_test}
use Rattle.theory.specs.Orders.{Pair}
use Rattle.theory.specs.Removals.{Answer, done, refused_51, refused_52}
use Rattle.theory.specs.MultiSteps.{GroupAnswer, single, refused_57, loop_at}

-- the next answer where this one is done, else this one
abbrev pub on_done : {A : Type 0} → (Answer → A) → Answer → A → A
on_done told done next = next
on_done told (refused_51 v l) next = told (refused_51 v l)
on_done told (refused_52 v l r) next = told (refused_52 v l r)

-- r tests which transitions stand
module _ (r : StepTest) (size top : ℕ) where
  -- w is reached by the standing entries of (v, l), then any standing transitions, stopping at v
  unfoldable pub around_test : ℕ → ℕ → ℕ → Bool
  around_test v l w = leads_to (round_test v (r v l) (any_test r size top)) size v w

  -- the standing transitions that do not leave v
  abbrev pub avoid_test : ℕ → ℕ → ℕ → Bool
  avoid_test v u x = not (eqb u v) && any_test r size top u x

  -- a cycle is reached that does not go through v
  unfoldable pub stray_test : ℕ → ℕ → Bool
  stray_test v l = some_below (λ w. not (eqb w v) && (around_test v l w && leads_to (avoid_test v) size w w)) size

  unfoldable pub rule_answer : ℕ → ℕ → Answer
  rule_answer v l =
      cond (not (loop_test r size top v l)) (refused_51 v l)
      (cond (not (around_test v l v || stray_test v l)) (refused_52 v l 1)
      (cond (stray_test v l) (refused_52 v l 2)
      (cond (around_test v l 0) (refused_52 v l 3) done)))

  -- several loops: the answer of the first that is refused by itself, or done
  unfoldable pub first_answer : List Pair → Answer
  first_answer [] = done
  first_answer ((v, l) ∷ cs) = on_done (λ a. a) (rule_answer v l) (first_answer cs)

  -- the start at place p is inside the body of a loop with another start
  unfoldable pub start_inside_test : List Pair → ℕ → Bool
  start_inside_test cs p =
      ltb p (length cs) && some_below (λ j.
      not (eqb (loop_at cs p).0 (loop_at cs j).0)
      && around_test (loop_at cs j).0 (loop_at cs j).1 (loop_at cs p).0) (length cs)

  unfoldable pub group_answer : List Pair → GroupAnswer
  group_answer cs =
      let p = lowest (start_inside_test cs) 0 (length cs) in
      on_done single (first_answer cs) (cond (ltb p (length cs)) (refused_57 p) (single done))

-- s tests the transitions, x the set of loops
module _ (s : StepTest) (size top : ℕ) (x : ℕ → ℕ → Bool) where
  unfoldable pub inside_test : ℕ → ℕ → Bool
  inside_test v l = some_below (λ w. some_below (λ m. x w m && (not (eqb w v) && body_test s size top v l w)) top) size

  unfoldable pub plain_answer : ℕ → ℕ → Answer
  plain_answer v l = cond (not (x v l)) (refused_51 v l) (cond (inside_test v l) (refused_52 v l 2) done)
