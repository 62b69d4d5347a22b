-- The tests of the shortest list decide what they are to: how many steps it takes, and the list.
use Prim.Native.Nat.{ℕ, zero, suc, ◌+◌, ◌≤◌, ◌<◌}
use mathlib.Core.Path.{◌≡◌, refl, sym, ap, ◌∙◌, subst}
use mathlib.Core.Logic.Iff
use mathlib.Core.Logic.{by_cases}
use mathlib.Core.Bool.{true, false≢true}
use mathlib.Core.List.Memᴰ
use mathlib.Core.List.{List, map, Memᴰ}
use native.Mathlib.Decide.{dec_lt}
use native.Mathlib.Omega.{arith}
use lib.ListN.{length}
use Rattle.theory.specs.Least.{Least}
use Rattle.theory.specs.Tests.{Decides, Stops, lowest}
use Rattle.theory.specs.Followers.{go}
use Rattle.theory.specs.Runs.{Machine, system, MembersOf, moves_of, left_by}
use Rattle.theory.specs.Ways.{Shortest, EndsFrom, EndsIn, LowestOf}
use Rattle.theory.specs.WayTests.{ends_in, steps_to_end, lowest_list}
use Rattle.theory.proofs.Tests.{decides_same, decides_in, lowest_stops, stops_least}
use Rattle.theory.proofs.Runs.{flat→, flat←, effect_members}
use Rattle.theory.proofs.Ways.{ends_in_more, ends_in_less, ends_in_none, lowest_none, lowest_more, lowest_shortest}

module _ (M : Machine) where
  -- a path of n steps leads from a state of the list to the end
  abbrev pub SomeEndsIn : List M.State → ℕ → Type 0
  SomeEndsIn ps n = (x : M.State) × Memᴰ x ps × EndsIn (system M) n x

  pub ends_in_tested : (n : ℕ) (ps : List M.State) → Decides (ends_in M n ps) (SomeEndsIn ps n)
  unfolding ends_in
  ends_in_tested zero ps =
      decides_same (
        (λ (x, m, e). (x, m, (ends_in_none (system M)).1 e)),
        (λ (x, m, e). (x, m, (ends_in_none (system M)).0 e)),
      ) (decides_in (λ x. Iff.rfl) ps)
  ends_in_tested (suc n) ps = decides_same (to, from) (ends_in_tested n (map (λ m. m.1) (moves_of M ps)))
    where
      to : SomeEndsIn (map (λ m. m.1) (moves_of M ps)) n → SomeEndsIn ps (suc n)
      to (y, h, e) =
          let (m, i, q) = Memᴰ.of_map (λ m. m.1) (moves_of M ps) h in
          let (x, g, j) = flat→ M.moves ps m i in
          (x, g, ends_in_more (system M) j (subst (EndsIn (system M) n) (sym q) e))

      from : SomeEndsIn ps (suc n) → SomeEndsIn (map (λ m. m.1) (moves_of M ps)) n
      from (x, g, e) =
          let (a, y, s, f) = ends_in_less (system M) e in
          (y, Memᴰ.map (λ m. m.1) (flat← M.moves ps (a, y) x g s), f)

  -- HOW MANY STEPS: the least number, or none below the bound
  module _ (most : ℕ) (ps : List M.State) where
    pub steps_least : steps_to_end M most ps < most → Least (SomeEndsIn ps) (steps_to_end M most ps)
    steps_least = (stops_least (λ n. ends_in_tested n ps) (lowest_stops (λ n. ends_in M n ps) 0 most)).0

    pub steps_none : most ≤ steps_to_end M most ps → (n : ℕ) → n < most → ¬ SomeEndsIn ps n
    steps_none = (stops_least (λ n. ends_in_tested n ps) (lowest_stops (λ n. ends_in M n ps) 0 most)).1

  pub list_long : (n : ℕ) (ps : List M.State) → length (lowest_list M n ps) ≡ n
  unfolding lowest_list
  list_long zero ps = refl
  list_long (suc n) ps = ap suc (list_long n (left_by M (go (lowest (λ a. ends_in M n (left_by M (go a) ps)) 0 256)) ps))

  -- THE LIST, where actions are bytes
  module _ (bytes : (x : M.State) (a : ℕ) (y : M.State) → Memᴰ (a, y) (M.moves x) → a < 256) where
    pub lowest_list_lem : (n : ℕ) (ps : List M.State) → SomeEndsIn ps n → LowestOf (system M) n (MembersOf M ps) (lowest_list M n ps)
    unfolding lowest_list
    lowest_list_lem zero ps (x, m, e) = lowest_none (system M) (x, m, (ends_in_none (system M)).0 e)
    lowest_list_lem (suc n) ps (x, m, e) =
        lowest_more (system M)
        (λ b l y p f. false≢true (sym (stops.below b (omega arith) l) ∙ leads b y p f))
        (λ y. (effect_members M (go least) ps y).0)
        (λ y p f. (effect_members M (go least) ps y).1 p)
        (lowest_list_lem n (left_by M (go least) ps) ((ends_in_tested n (left_by M (go least) ps)).0 (stops.passes found)))
      where
        least : ℕ
        least = lowest (λ a. ends_in M n (left_by M (go a) ps)) 0 256

        stops : Stops (λ a. ends_in M n (left_by M (go a) ps)) 0 256 least
        stops = lowest_stops (λ a. ends_in M n (left_by M (go a) ps)) 0 256

        leads : (a : ℕ) (y : M.State) → (z : M.State) × Memᴰ z ps × Memᴰ (a, y) (M.moves z)
            → EndsIn (system M) n y → ends_in M n (left_by M (go a) ps) ≡ true
        leads a y p f = (ends_in_tested n (left_by M (go a) ps)).1 (y, (effect_members M (go a) ps y).1 p, f)

        found : least < 0 + 256
        found =
            let (a, y, s, f) = ends_in_less (system M) e in
            let l = bytes x a y s in
            by_cases (dec_lt least (0 + 256)) (λ h. h)
            (λ h. absurd (false≢true (sym (stops.below a (omega arith) (omega (arith, l, h))) ∙ leads a y (x, m, s) f)))

    pub shortest_list_lem : (most : ℕ) (ps : List M.State) → steps_to_end M most ps < most
        → Shortest (EndsFrom (system M) (MembersOf M ps)) (lowest_list M (steps_to_end M most ps) ps)
    shortest_list_lem most ps h =
        let L = steps_least most ps h in
        lowest_shortest (system M) (lowest_list_lem (steps_to_end M most ps) ps L.holds) (λ k x l m e. L.lowest k l (x, m, e))
