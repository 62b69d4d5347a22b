-- The shortest way: what the definitions answer and leave is what document 02 says, both ways; and so is what the code finds.
use Prim.Native.Nat.{ℕ, ◌*◌, ◌+◌, ◌≤◌, ◌<◌}
use mathlib.Core.Path.{◌≡◌, refl, sym, ap, ◌∙◌, subst}
use mathlib.Core.Logic.Iff
use mathlib.Core.Logic.{◌↔◌, by_cases}
use mathlib.Core.Bool.{true≢false}
use mathlib.Core.List.Memᴰ
use mathlib.Core.List.{List, map, Memᴰ, ◌++◌}
use native.Mathlib.Decide.{ℕ_discrete, dec_lt}
use native.Mathlib.Nat.{le_refl}
use native.Mathlib.Omega.{arith}
use lib.ListN.{length, drop}
use borrow.Author.Tests.{eq-eqb, ne_eqb, lt-ltb, le-ltb}
use Rattle.theory.specs.Least.{Least}
use Rattle.theory.specs.Systems.{System}
use Rattle.theory.specs.Events.{event}
use Rattle.theory.specs.Runs.{Machine, system, MembersOf}
use Rattle.theory.specs.Ways.{EndsFrom, LowestOf}
use Rattle.theory.proofs.Search.{least_one}
use Rattle.theory.proofs.Tests.{decided}
use Rattle.theory.proofs.Systems.{lift_equal}
use Rattle.theory.proofs.Runs.{chart_machine_lem}
use Rattle.theory.proofs.Ways.{one_shortest, shortest_same, spoilt_stays, ends_unspoilt, ends_taken, ends_carried, ends_short, shortest_few, one_lowest, lowest_carried}
use Rattle.theory.specs.WayTests.{steps_to_end}
use Rattle.theory.proofs.WayTests.{SomeEndsIn, steps_least, steps_none, list_long, lowest_list_lem, shortest_list_lem}
use Rattle.std.specs.Prelude.{Result, Ok, Err}
use Rattle.report.specs.declared.Refusal.{Refusal}
use Rattle.report.specs.declared.Refusal.TheVariants as refusal
use Rattle.report.specs.declared.Refusal.TheVariants.{NoWay}
use Rattle.bits.specs.Bits.{Bytes, bytes_with}
use Rattle.bits.specs.declared.sets.Set.{Set}
use Rattle.bits.specs.Sets.{Has}
use Rattle.chart.specs.Bodies.{vertices_of, start_of, WellFormed}
use Rattle.chart.specs.Checks.{check_of}
use Rattle.chart.specs.Systems.{system_of, machine_of}
use Rattle.chart.proofs.Checks.{well_formed, passes}
use Rattle.chart.proofs.Refusals.{chart_refused}
use Rattle.chart.proofs.Relations.{acts_member}
use Rattle.follower.specs.declared.Follower.{Follower}
use Rattle.follower.specs.States.{state_size, state_in, InState, Unspoilt, IsSpoilt, members_of}
use Rattle.follower.specs.Calls.{state_stage, followed_as}
use Rattle.follower.specs.Ways.{events_to_end, shortest_list, bytes_stage, way_of, way_left}
use Rattle.follower.specs.WayAnswers.{event_answers, after_events, EndsAfter, ShortestWay, OnlyTaken, NoEnd, StatePasses, WayAnswer, other_chart, no_state_lem, no_way, too_short, written}
use Rattle.follower.specs.Layers as layers
use Rattle.follower.specs.Layers.{SomeEnds, WayFrom}
use Rattle.follower.specs.Parts.{Same}
use Rattle.follower.proofs.Bytes.{members_are}
use Rattle.follower.proofs.Calls.{formed_in, not_spoilt, unspoilt_kept, kept_unspoilt, tests_state, state_ready, state_unready}
use Rattle.follower.proofs.Lists.{Holding, lent_run}
use Rattle.follower.proofs.Finds.{move_acts}

-- the answer x and the lent bytes t are what is handed back and left
abbrev pub WayGives : (b s out : List ℕ) → Result ℕ Refusal → List ℕ → Type 0
WayGives b s out x t = (way_of b s (length out) ≡ x) × (way_left b s out ≡ t)

given : {b s out : List ℕ} {x : Result ℕ Refusal} {t : List ℕ} → WayGives b s out x t → WayAnswer b s out x t
    → WayAnswer b s out (way_of b s (length out)) (way_left b s out)
given (p, q) h = rw (p, q) h

-- as the contract has it
pub both_sym : {A B : Type 0} {x y : A} {u v : B} → (x ≡ y) × (u ≡ v) → (y ≡ x) × (v ≡ u)
both_sym (p, q) = (sym p, sym q)

-- THE STAGE of 53: bytes that hold a state that is ready pass, and others don't
bytes_ready : {b s : List ℕ} → StatePasses b s → bytes_stage b s ≡ Ok tt
bytes_ready {b} {s} P = rw (eq-eqb (length s) state_size P.long) (state_ready P.fits)

bytes_unready : {b s : List ℕ} → WellFormed b → ¬ StatePasses b s → bytes_stage b s ≡ Err refusal.FollowerSet
bytes_unready {b} {s} W n =
    by_cases (ℕ_discrete (length s) state_size)
    (λ l. rw (eq-eqb (length s) state_size l) (state_unready (λ p. n (record { chart = W; long = l; fits = p }))))
    (λ l. rw (ne_eqb (length s) state_size l) refl)

passes? : {b : List ℕ} (s : List ℕ) → WellFormed b → Dec (StatePasses b s)
passes? {b} s W =
    by_cases (ℕ_discrete (length s) state_size)
    (λ l. by_cases (decided (tests_state b (state_in s)))
    (λ p. yes (record { chart = W; long = l; fits = p })) (λ n. no (λ P. n P.fits)))
    (λ l. no (λ P. l P.long))

-- STATES THAT PASS
module _ {b s : List ℕ} (B : Bytes b) (D : Bytes s) (P : StatePasses b s) where
  abbrev C : System
  C = system_of b

  abbrev M : Machine
  M = machine_of b

  abbrev f : Follower
  f = state_in s

  holds : Holding P.chart s
  holds = record { long = P.long; formed = formed_in s D P.long }

  -- by the follower's own events: from a spoilt state never, from another by a path in the chart
  abbrev left : List ℕ → Follower
  left xs = state_in (after_events b s xs)

  pub spoilt_never : IsSpoilt f → NoEnd b s
  spoilt_never u xs (n, e) =
      let R = lent_run P.chart s holds P.fits (map event xs) in
      let k = spoilt_stays C xs (rw (eq-eqb f.mark 1 u) at R.follows) in
      true≢false (sym k ∙ unspoilt_kept n)

  by_paths : Unspoilt f → (xs : List ℕ) → EndsAfter b s xs ↔ EndsFrom C (InState f) xs
  by_paths u xs =
      let R = lent_run P.chart s holds P.fits (map event xs) in
      let E = ends_unspoilt C xs P.fits.some (rw (unspoilt_kept u) at R.follows) in (
        (λ (n, e). E.0 (unspoilt_kept n, (0, e, refl))),
        (λ p. let (k, (x, h, e)) = E.1 p in (kept_unspoilt R.fits.marked k, subst (InState (left xs)) e h)),
      )

  -- a list that does it is only found where the state is not spoilt
  found_unspoilt : (xs : List ℕ) → EndsAfter b s xs → Unspoilt f
  found_unspoilt xs e = not_spoilt P.fits.marked (λ u. spoilt_never u xs e)

  -- and in its machine
  carried : (xs : List ℕ) → EndsFrom (system M) (MembersOf M (members_of f)) xs ↔ EndsFrom C (InState f) xs
  carried = ends_carried (chart_machine_lem _ _) (lift_equal (members_are f))

  target_low : (u a w : ℕ) → C.Step u a w → w < vertices_of b
  target_low u a w m =
      let t = (acts_member b u a w).1 m in
      omega (arith, t.enters, (P.chart.each t.at t.within).to_high)

  action_byte_lem : (u a w : ℕ) → Memᴰ (a, w) (M.moves u) → a < 256
  action_byte_lem u a w m = let t = (move_acts b P.chart B u a w).0 m in omega (arith, t.holds.is, B (4 * t.at + 4 + 1))

  -- THE TESTS FIND IT: the list, and how long it is
  spoilt_events : IsSpoilt f → events_to_end b s ≡ vertices_of b
  unfolding events_to_end
  spoilt_events u = rw (eq-eqb f.mark 1 u) refl

  unspoilt_events : Unspoilt f → events_to_end b s ≡ steps_to_end M (vertices_of b) (members_of f)
  unfolding events_to_end
  unspoilt_events u = rw (unspoilt_kept u) refl

  low_unspoilt : events_to_end b s < vertices_of b → Unspoilt f
  low_unspoilt h = not_spoilt P.fits.marked (λ u. omega (arith, h, spoilt_events u))

  pub list_found : events_to_end b s < vertices_of b → ShortestWay b s (shortest_list b s)
  unfolding shortest_list
  list_found h =
      let u = low_unspoilt h in
      let e = unspoilt_events u in
      (shortest_same (by_paths u) _).1
      ((shortest_same carried _).0 (rw e (shortest_list_lem M action_byte_lem (vertices_of b) (members_of (state_in s)) (omega (arith, e, h)))))

  pub none_found : vertices_of b ≤ events_to_end b s → NoEnd b s
  none_found h xs a =
      let u = found_unspoilt xs a in
      let (x, i, e) = (by_paths u xs).0 a in
      let (ys, l, f) = ends_short (start_of b) target_low (length xs) (le_refl _) (P.fits.below x i) e in
      let (y, m, g) = (carried ys).1 (x, i, f) in
      steps_none M (vertices_of b) (members_of (state_in s)) (omega (arith, h, unspoilt_events u)) (length ys) l (y, m, (ys, refl, g))

  pub found_low : {xs : List ℕ} → ShortestWay b s xs → events_to_end b s < vertices_of b
  found_low {xs} S =
      by_cases (dec_lt (events_to_end b s) (vertices_of b)) (λ h. h) (λ h. absurd (none_found (omega arith) xs S.holds))

  pub unreached : NoEnd b s → vertices_of b ≤ events_to_end b s
  unreached n =
      by_cases (dec_lt (events_to_end b s) (vertices_of b))
      (λ h. absurd (n (shortest_list b s) (list_found h).holds)) (λ h. omega arith)

  -- it is the only one
  pub found_one : {xs : List ℕ} → ShortestWay b s xs → xs ≡ shortest_list b s
  found_one S = one_shortest S (list_found (found_low S))

  length_found : {xs : List ℕ} → ShortestWay b s xs → length xs ≡ events_to_end b s
  unfolding shortest_list
  length_found S = ap length (found_one S) ∙ list_long M (events_to_end b s) (members_of (state_in s))

  -- A SHORTEST LIST has fewer events than there are vertices, and all of them are taken
  pub way_few : {xs : List ℕ} → ShortestWay b s xs → length xs < vertices_of b
  way_few {xs} S = shortest_few (start_of b) target_low P.fits.below ((shortest_same (by_paths (found_unspoilt xs S.holds)) _).0 S)

  pub way_taken : {xs : List ℕ} → ShortestWay b s xs → OnlyTaken (event_answers b s xs)
  way_taken {xs} S y m =
      let R = lent_run P.chart s holds P.fits (map event xs) in
      let u = found_unspoilt xs S.holds in
      let (x, i, q) = Memᴰ.of_map followed_as R.answers (rw R.written at m) in
      let (w, e) = ends_taken C xs (rw (unspoilt_kept u) at R.follows) ((by_paths u xs).0 S.holds) x i in
      (w.end, length w.offered, sym q ∙ ap followed_as e)

  -- 20, 21 AND 53 PASSED: 55, 54, and the list
  passed_53 : bytes_stage b s ≡ Ok tt
  passed_53 = bytes_ready P

  module _ (out : List ℕ) where
    pub way_none : vertices_of b ≤ events_to_end b s → WayGives b s out (Err NoWay) out
    unfolding way_of way_left
    way_none h = rw (passes b P.chart, passed_53, le-ltb (events_to_end b s) (vertices_of b) h) (refl, refl)

    pub way_short : events_to_end b s < vertices_of b → length out < events_to_end b s
        → WayGives b s out (Err (refusal.OutputLength (events_to_end b s))) out
    unfolding way_of way_left
    way_short h l =
        rw (passes b P.chart, passed_53, lt-ltb (events_to_end b s) (vertices_of b) h, lt-ltb (length out) (events_to_end b s) l) (refl, refl)

    pub way_written : events_to_end b s < vertices_of b → events_to_end b s ≤ length out
        → WayGives b s out (Ok (events_to_end b s)) (bytes_with (shortest_list b s) out)
    unfolding way_of way_left
    way_written h l =
        rw (passes b P.chart, passed_53, lt-ltb (events_to_end b s) (vertices_of b) h, le-ltb (length out) (events_to_end b s) l) (refl, refl)

    -- with the list at hand
    pub list_short : {xs : List ℕ} → ShortestWay b s xs → length out < length xs
        → WayGives b s out (Err (refusal.OutputLength (length xs))) out
    list_short {xs} S l =
        let e = length_found S in rw e (way_short (found_low S) (omega (arith, e, l)))

    pub list_written : {xs : List ℕ} → ShortestWay b s xs → length xs ≤ length out
        → WayGives b s out (Ok (length xs)) (bytes_with xs out)
    list_written {xs} S l =
        let e = length_found S in
        let (p, q) = way_written (found_low S) (omega (arith, e, l)) in
        (p ∙ ap Ok (sym e), q ∙ ap (λ (ys : List ℕ). bytes_with ys out) (sym (found_one S)))

    pub passed_answer : WayAnswer b s out (way_of b s (length out)) (way_left b s out)
    passed_answer =
        by_cases (dec_lt (events_to_end b s) (vertices_of b))
        (λ h. let S = list_found h in by_cases (dec_lt (length out) (length (shortest_list b s)))
        (λ l. given (list_short S l) (too_short P S l))
        (λ l. given (list_written S (omega arith)) (written P S (omega arith))))
        (λ h. given (way_none (omega arith)) (no_way P (none_found (omega arith))))

-- THE STAGES of the call
module _ (b s out : List ℕ) where
  -- 20 and 21
  pub way_refused : {p : Refusal} → check_of b ≡ Err p → WayGives b s out (Err p) out
  unfolding way_of way_left
  way_refused e = rw e (refl, refl)

  -- 53
  pub way_unready : {p : Refusal} → check_of b ≡ Ok tt → length s ≡ state_size → state_stage b (state_in s) ≡ Err p
      → WayGives b s out (Err p) out
  unfolding way_of way_left
  way_unready e l r = rw (e, eq-eqb (length s) state_size l, r) (refl, refl)

  pub way_no_state : WellFormed b → ¬ StatePasses b s → WayGives b s out (Err refusal.FollowerSet) out
  unfolding way_of way_left
  way_no_state W n = rw (passes b W, bytes_unready W n) (refl, refl)

module _ (b s out : List ℕ) (B : Bytes b) (D : Bytes s) where
  way_answer : WayAnswer b s out (way_of b s (length out)) (way_left b s out)
  way_answer = go (check_of b) refl
    where
      go : (x : Result Unit Refusal) → check_of b ≡ x → WayAnswer b s out (way_of b s (length out)) (way_left b s out)
      go (Err p) e = given (way_refused b s out e) (other_chart ((chart_refused b p).0 e))
      go (Ok tt) e =
          let W = well_formed b e in
          by_cases (passes? s W)
          (λ P. passed_answer B D P out)
          (λ n. given (way_no_state b s out W n) (no_state_lem W n))

  answer_way : {x : Result ℕ Refusal} {t : List ℕ} → WayAnswer b s out x t → WayGives b s out x t
  answer_way (other_chart r) = way_refused b s out ((chart_refused b _).1 r)
  answer_way (no_state_lem W n) = way_no_state b s out W n
  answer_way (no_way P n) = way_none B D P out (unreached B D P n)
  answer_way (too_short P S l) = list_short B D P out S l
  answer_way (written P S l) = list_written B D P out S l

  -- THE CALL answers x and leaves t exactly where document 02 says so
  pub way_says : (x : Result ℕ Refusal) (t : List ℕ) → WayGives b s out x t ↔ WayAnswer b s out x t
  way_says x t = ((λ (p, q). rw (p, q) at way_answer), answer_way)

-- THE CODE'S ANSWER, of a set that has the state's vertices
pub spoilt_way : {b s out : List ℕ} → Bytes b → Bytes s → StatePasses b s → IsSpoilt (state_in s) → WayGives b s out (Err NoWay) out
spoilt_way {out = out} B D P u = way_none B D P out (omega (arith, spoilt_events B D P u))

-- where the state is not spoilt
module _ {b s : List ℕ} (B : Bytes b) (D : Bytes s) (P : StatePasses b s) (u : Unspoilt (state_in s))
    {set : Set} (S : Same set (members_of (state_in s))) where
  listed : (xs : List ℕ) → EndsFrom (system (machine_of b)) (MembersOf (machine_of b) (members_of (state_in s))) xs
      ↔ EndsFrom (system_of b) (Has set) xs
  listed = ends_carried (chart_machine_lem _ _) (lift_equal (λ v. Iff.symm (S v)))

  some_listed : (n : ℕ) → SomeEndsIn (machine_of b) (members_of (state_in s)) n ↔ SomeEnds b set n
  some_listed n = (
    (λ (x, m, (xs, l, e)). let (y, h, f) = (listed xs).0 (x, m, e) in (y, h, (xs, l, f))),
    (λ (x, m, (xs, l, e)). let (y, h, f) = (listed xs).1 (x, m, e) in (y, h, (xs, l, f))),
  )

  -- as many steps as from the list of its vertices
  abbrev steps : ℕ
  steps = steps_to_end (machine_of b) (vertices_of b) (members_of (state_in s))

  same_number : {d : ℕ} → d < vertices_of b → Least (SomeEnds b set) d → events_to_end b s ≡ d
  same_number {d} l L =
      unspoilt_events B D P u ∙
      by_cases (dec_lt steps (vertices_of b))
      (λ h. let K = steps_least (machine_of b) (vertices_of b) (members_of (state_in s)) h in
      least_one (record { holds = (some_listed _).0 K.holds; lowest = λ k g e. K.lowest k g ((some_listed k).1 e) }) L)
      (λ h. absurd (steps_none (machine_of b) (vertices_of b) (members_of (state_in s)) (omega arith) d l ((some_listed d).1 L.holds)))

  same_list : {d : ℕ} {xs : List ℕ} → events_to_end b s ≡ d → Least (SomeEnds b set) d → LowestOf (system_of b) d (Has set) xs
      → xs ≡ shortest_list b s
  unfolding shortest_list
  same_list {d} e L K =
      one_lowest (system_of b) K
      (rw e (lowest_carried listed (lowest_list_lem (machine_of b) (action_byte_lem B D P) d (members_of (state_in s)) ((some_listed d).1 L.holds))))

  pub found_way : {out t : List ℕ} {x : Result ℕ Refusal} → WayFrom b set out x t → WayGives b s out x t
  found_way {out} (layers.no_way f) = way_none B D P out (by_cases (dec_lt steps (vertices_of b))
      (λ h. absurd (f _ h ((some_listed _).0 (steps_least (machine_of b) (vertices_of b) (members_of (state_in s)) h).holds)))
      (λ h. omega (arith, h, unspoilt_events B D P u)))
  found_way {out} (layers.too_short {d} l L n) =
      let e = same_number l L in
      subst (λ (k : ℕ). WayGives b s out (Err (refusal.OutputLength k)) out) e
      (way_short B D P out (omega (arith, e)) (omega (arith, e, n)))
  found_way {out} (layers.written {d} {t} l L n R) =
      let e = same_number l L in
      let q = same_list e L R.lowest in
      let (y, z) = way_written B D P out (omega (arith, e)) (omega (arith, e, n)) in (
        y ∙ ap Ok e,
        z ∙ ap (λ (xs : List ℕ). bytes_with xs out) (sym q)
            ∙ ap (λ (k : ℕ). R.list ++ drop k out) R.lowest.long ∙ sym R.left,
      )
