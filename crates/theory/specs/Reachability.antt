-- Reachability as a test that runs: as many rounds as there are vertices, each adding what one transition leads to.
use Rattle.std.specs.Prelude.{Bool, false, ◌&&◌, ◌||◌, List, [], ◌∷◌, ◌++◌, ℕ, zero, suc, get_or}
use Rattle.theory.specs.Tests.{some_below}

-- the values of a test below n
unfoldable pub values : (ℕ → Bool) → ℕ → List Bool
values p zero = []
values p (suc n) = values p n ++ p n ∷ []

abbrev pub at : List Bool → ℕ → Bool
at m w = get_or m w false

-- marked already, or a transition leads there from a marked vertex
abbrev pub grows : (ℕ → ℕ → Bool) → ℕ → List Bool → ℕ → Bool
grows e n m w = at m w || some_below (λ u. at m u && e u w) n

unfoldable pub rounds : (ℕ → ℕ → Bool) → ℕ → ℕ → List Bool → List Bool
rounds e n zero m = m
rounds e n (suc k) m = rounds e n k (values (grows e n m) n)

-- over the vertices below n and the transitions that e tests: w is reached from a vertex that begin tests
unfoldable pub reaches : (ℕ → ℕ → Bool) → ℕ → (ℕ → Bool) → ℕ → Bool
reaches e n begin w = at (rounds e n n (values begin n)) w

-- w is reached from u by one transition or more
abbrev pub leads_to : (ℕ → ℕ → Bool) → ℕ → ℕ → ℕ → Bool
leads_to e n u w = reaches e n (e u) w
