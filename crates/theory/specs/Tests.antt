-- Tests that run, and what it is for a test to decide a statement.
use Rattle.std.specs.Prelude.{◌≡◌, ◌↔◌, Bool, true, false, cond, ◌||◌, List, [], ◌∷◌, ◌++◌, ℕ, zero, suc, ◌+◌, ◌<◌, ◌≤◌}

abbrev pub Decides : Bool → Type 0 → Type 0
Decides b P = (b ≡ true) ↔ P

-- some number below n passes
unfoldable pub some_below : (ℕ → Bool) → ℕ → Bool
some_below p zero = false
some_below p (suc n) = p n || some_below p n

-- some entry of a list passes
unfoldable pub some_in : {A : Type 0} → (A → Bool) → List A → Bool
some_in p [] = false
some_in p (x ∷ xs) = p x || some_in p xs

-- of the n numbers from i on, the lowest that passes, or the next after them
unfoldable pub lowest : (ℕ → Bool) → ℕ → ℕ → ℕ
lowest p i zero = i
lowest p i (suc n) = cond (p i) i (lowest p (suc i) n)

-- where the search stops: at the lowest that passes, or past all of them
pub record Stops (p : ℕ → Bool) (i n r : ℕ) : Type 0 where
  pub from : i ≤ r
  pub within : r ≤ i + n
  pub passes : r < i + n → p r ≡ true
  pub below : (k : ℕ) → i ≤ k → k < r → p k ≡ false

-- the row of the first pair below rows and columns that passes, or rows; its column is the lowest that passes there
unfoldable pub first_row : (ℕ → ℕ → Bool) → ℕ → ℕ → ℕ
first_row p rows columns = lowest (λ u. some_below (p u) columns) 0 rows

-- the pairs below rows and columns that pass, by row and then by column: of one row the n columns from v on, and the n
-- rows from u on
unfoldable pub row_pairs : (ℕ → ℕ → Bool) → ℕ → ℕ → ℕ → List (ℕ × ℕ)
row_pairs p u v zero = []
row_pairs p u v (suc n) = cond (p u v) ((u, v) ∷ row_pairs p u (suc v) n) (row_pairs p u (suc v) n)

unfoldable pub pairs_from : (ℕ → ℕ → Bool) → ℕ → ℕ → ℕ → List (ℕ × ℕ)
pairs_from p columns u zero = []
pairs_from p columns u (suc n) = row_pairs p u 0 columns ++ pairs_from p columns (suc u) n

unfoldable pub pairs : (ℕ → ℕ → Bool) → ℕ → ℕ → List (ℕ × ℕ)
pairs p rows columns = pairs_from p columns 0 rows
