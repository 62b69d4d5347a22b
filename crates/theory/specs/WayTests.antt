-- The shortest list of actions to the end as a test that runs, over a system whose steps are listed.
use Rattle.std.specs.Prelude.{Bool, List, [], ◌∷◌, map, ℕ, zero, suc}
use Rattle.theory.specs.Tests.{some_in, lowest}
use Rattle.theory.specs.Followers.{go}
use Rattle.theory.specs.Runs.{Machine, moves_of, left_by}

-- the end is among what n steps lead to from the states of a list
unfoldable pub ends_in : (M : Machine) → ℕ → List M.State → Bool
ends_in M zero ps = some_in M.is_end ps
ends_in M (suc n) ps = ends_in M n (map (λ m. m.1) (moves_of M ps))

-- the number of steps, or `most` where fewer do not lead there
abbrev pub steps_to_end : (M : Machine) → ℕ → List M.State → ℕ
steps_to_end M most ps = lowest (λ n. ends_in M n ps) 0 most

-- of n actions: at each place the lowest, a byte, after which the end is as many steps away as places are left
unfoldable pub lowest_list : (M : Machine) → ℕ → List M.State → List ℕ
lowest_list M zero ps = []
lowest_list M (suc n) ps =
    let a = lowest (λ a. ends_in M n (left_by M (go a) ps)) 0 256 in
    a ∷ lowest_list M n (left_by M (go a) ps)
