-- The checks 42 to 45 as a test that runs: t tests the relation; its rows are below rows, its columns below columns.
use Rattle.std.specs.Prelude.{Bool, true, false, cond, ◌&&◌, not, ℕ, eqb, ltb}
use Rattle.theory.specs.Tests.{some_below, lowest, first_row}
use Rattle.theory.specs.Relations.{Indexed, RelationOutcome, related, starts_apart, ends_apart, left_unmatched, right_unmatched}

abbrev pub RelationTest : Type 0
RelationTest = ℕ → ℕ → Bool

unfoldable pub matched_test : (M N : Indexed) → RelationTest → ℕ → ℕ → Bool
matched_test M N t v i =
    some_below (λ j. eqb (N.from j) v && (eqb (N.action j) (M.action i) && t (M.to i) (N.to j))) N.count

unfoldable pub unmatched_test : (M N : Indexed) → RelationTest → ℕ → ℕ → ℕ → Bool
unmatched_test M N t u v i = eqb (M.from i) u && not (matched_test M N t v i)

abbrev pub same : Bool → Bool → Bool
same true b = b
same false b = not b

abbrev pub pair_failed : RelationOutcome → Bool
pair_failed related = false
pair_failed starts_apart = true
pair_failed (ends_apart p q) = true
pair_failed (left_unmatched p q r) = true
pair_failed (right_unmatched p q r) = true

module _ (M N : Indexed) (t : RelationTest) where
  -- 43, 44 and 45 of one pair
  unfoldable pub pair_outcome : ℕ → ℕ → RelationOutcome
  pair_outcome u v =
      let i = lowest (unmatched_test M N t u v) 0 M.count in
      let j = lowest (unmatched_test N M (λ y x. t x y) v u) 0 N.count in
      cond (not (same (eqb u 0) (eqb v 0))) (ends_apart u v)
      (cond (ltb i M.count) (left_unmatched u v i)
      (cond (ltb j N.count) (right_unmatched u v j) related))

  unfoldable pub failing_pair : ℕ → ℕ → Bool
  failing_pair u v = t u v && pair_failed (pair_outcome u v)

  -- the starts, then the first pair that fails
  unfoldable pub relation_outcome : ℕ → ℕ → RelationOutcome
  relation_outcome rows columns =
      let u = first_row failing_pair rows columns in
      cond (not (t M.start N.start)) starts_apart
      (cond (ltb u rows) (pair_outcome u (lowest (failing_pair u) 0 columns)) related)
