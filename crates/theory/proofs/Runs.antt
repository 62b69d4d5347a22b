-- Followers that run are followers: what meets a rule at each call meets it over every list; and every rule has answers to every
-- list over a machine, over a chart and over the published rules.
use Prim.Native.Nat.{ℕ}
use mathlib.Core.Path.{◌≡◌, refl, ap, ap₂, sym, ◌∙◌}
use mathlib.Core.Logic.Iff
use mathlib.Core.Logic.{◌⊎◌, inl, inr, ⊎_elim}
use mathlib.Core.Bool.{Bool, true, false, cond, false≢true}
use mathlib.Core.List.Memᴰ
use mathlib.Core.List.{List, [], ◌∷◌, map, map-id, flat_map, Memᴰ}
use lib.Dec.{eqb, ltb}
use borrow.Author.Tests.{eqb-true, eqb-false}
use Rattle.theory.specs.Systems.{System, Bisimulation}
use Rattle.theory.specs.Tests.{Decides}
use Rattle.theory.specs.Transitions.{Transition, chart}
use Rattle.theory.specs.Expressions.{Expr, Target, end, to}
use Rattle.theory.specs.Rules.{Derives, by_rules, rules}
use Rattle.theory.specs.Followers.{StateSet, SameMembers, Fresh, Some, Offered, Shows, Effect, keep, fresh, empty, go, Becomes, FollowerRule, Responds, Follows, none, call, Answers}
use Rattle.theory.specs.Runs.{run, run_leaves, Machine, system, MembersOf, moves_of, nonempty, view_of, pick, left_by, call_on, run_fresh, kept_fresh, from_and_move, chart_machine, target_moves, is_end_target, rule_machine}
use Rattle.theory.proofs.Ascending.{sort_ascends, sort→, sort←, ltb_order}
use Rattle.theory.proofs.Derivatives.{derivatives_sound, derivatives_complete}
use Rattle.theory.proofs.Systems.{equal_states}
use Rattle.theory.proofs.Tests.{decides_eqb, decides_in}
use Rattle.theory.proofs.Followers.{fresh_carried, from_fresh}

-- FROM ONE CALL TO EVERY LIST. A state s of the function f has the members P s and keeps k s; f meets the rule on the states with
-- G, which it keeps, and writes the answer x as `written x`
module _ (rule : FollowerRule) (M : System) {S B : Type 0} (f : S → rule.Call → B × S) (written : rule.Answer → B)
    (P : S → StateSet M) (k : S → rule.Kept) (G : S → Type 0)
    (each : (s : S) (c : rule.Call) → G s
    → (x : rule.Answer) × ((f s c).0 ≡ written x) × Responds rule M (P s) (k s) c x (P (f s c).1) (k (f s c).1) × G (f s c).1) where
  pub run_follows : (cs : List rule.Call) (s : S) → G s
      → (xs : List rule.Answer) × (run f cs s ≡ map written xs)
      × Follows rule M (P s) (k s) cs xs (P (run_leaves f cs s)) (k (run_leaves f cs s)) × G (run_leaves f cs s)
  run_follows [] s g = ([], refl, none, g)
  run_follows (c ∷ cs) s g =
      let (x, e, r, g') = each s c g in
      let (xs, q, h, g'') = run_follows cs (f s c).1 g' in
      (x ∷ xs, ap₂ ◌∷◌ e q, call r h, g'')

-- what stands beside a in a list of pairs
pick→ : {A : Type 0} (a : ℕ) (ms : List (ℕ × A)) (y : A) → Memᴰ y (pick a ms) → Memᴰ (a, y) ms
unfolding pick
pick→ a [] y h = absurd (Memᴰ.not-nil h)
pick→ a (m ∷ ms) y h = go (eqb a m.0) refl (pick→ a ms y) h
  where
    go : (b : Bool) → eqb a m.0 ≡ b → (Memᴰ y (pick a ms) → Memᴰ (a, y) ms)
        → Memᴰ y (cond b (m.1 ∷ pick a ms) (pick a ms)) → Memᴰ (a, y) (m ∷ ms)
    go true e i h =
        ⊎_elim (λ (q : y ≡ m.1). Memᴰ.head (λ i. (eqb-true a m.0 e i, q i)))
        (λ j. Memᴰ.tail (i j)) (Memᴰ.cases_cons h)
    go false e i h = Memᴰ.tail (i h)

pick← : {A : Type 0} (a : ℕ) (ms : List (ℕ × A)) (y : A) → Memᴰ (a, y) ms → Memᴰ y (pick a ms)
unfolding pick
pick← a [] y h = absurd (Memᴰ.not-nil h)
pick← a (m ∷ ms) y h = go (eqb a m.0) refl (pick← a ms y) (Memᴰ.cases_cons h)
  where
    go : (b : Bool) → eqb a m.0 ≡ b → (Memᴰ (a, y) ms → Memᴰ y (pick a ms))
        → ((a, y) ≡ m) ⊎ Memᴰ (a, y) ms → Memᴰ y (cond b (m.1 ∷ pick a ms) (pick a ms))
    go true e i (inl q) = Memᴰ.head (ap (λ p. p.1) q)
    go true e i (inr j) = Memᴰ.tail (i j)
    go false e i (inl q) = absurd (eqb-false a m.0 e (ap (λ p. p.0) q))
    go false e i (inr j) = i j

-- what some entry of a list has
pub flat→ : {A B : Type 0} (f : A → List B) (xs : List A) (m : B)
    → Memᴰ m (flat_map f xs) → (x : A) × Memᴰ x xs × Memᴰ m (f x)
unfolding flat_map
flat→ f [] m h = absurd (Memᴰ.not-nil h)
flat→ f (x ∷ xs) m h =
    ⊎_elim (λ i. (x, Memᴰ.head refl, i))
    (λ i. let (y, g, j) = flat→ f xs m i in (y, Memᴰ.tail g, j))
    (Memᴰ.append_cases (f x) h)

pub flat← : {A B : Type 0} (f : A → List B) (xs : List A) (m : B) (x : A)
    → Memᴰ x xs → Memᴰ m (f x) → Memᴰ m (flat_map f xs)
unfolding flat_map
flat← f [] m x h i = absurd (Memᴰ.not-nil h)
flat← f (z ∷ xs) m x h i =
    ⊎_elim (λ (e : x ≡ z). Memᴰ.append_left (flat_map f xs) (rw e at i))
    (λ j. Memᴰ.append_right (f z) (flat← f xs m x j i))
    (Memᴰ.cases_cons h)

module _ (M : Machine) where
  one_member : SameMembers (system M) (MembersOf M (M.start ∷ [])) (Fresh (system M))
  one_member x = (Memᴰ.eq_of_singleton, λ e. Memᴰ.head e)

  some_tested : (xs : List M.State) → Decides (nonempty xs) (Some (system M) (MembersOf M xs))
  some_tested [] = (λ e. absurd (false≢true e), λ h. absurd (Memᴰ.not-nil h.1))
  some_tested (x ∷ xs) = (λ e. (x, Memᴰ.head refl), λ h. refl)

  abbrev actions : List M.State → List ℕ
  actions xs = map (λ m. m.0) (moves_of M xs)

  offered→ : (xs : List M.State) (a : ℕ) → Memᴰ a (actions xs) → Offered (system M) (MembersOf M xs) a
  offered→ xs a h =
      let (m, i, e) = Memᴰ.of_map (λ m. m.0) (moves_of M xs) h in
      let (x, g, j) = flat→ M.moves xs m i in
      (m.1, (x, g, Memᴰ.cast (ap (λ b. (b, m.1)) (sym e)) j))

  offered← : (xs : List M.State) (a : ℕ) → Offered (system M) (MembersOf M xs) a → Memᴰ a (actions xs)
  offered← xs a (y, (x, g, j)) = Memᴰ.map (λ m. m.0) (flat← M.moves xs (a, y) x g j)

  -- WHAT A LIST SHOWS, and what an effect leaves of it
  pub view_shows : (xs : List M.State) → Shows (system M) (MembersOf M xs) (view_of M xs)
  view_shows xs = record {
    some = some_tested xs;
    end = decides_in (λ x. Iff.rfl) xs;
    ascending = sort_ascends ltb (actions xs);
    offered = λ a. (
      λ h. offered→ xs a (sort→ ltb a (actions xs) h),
      λ o. sort← ltb ltb_order a (actions xs) (offered← xs a o),
    );
  }

  pub effect_members : (e : Effect) (xs : List M.State)
      → SameMembers (system M) (MembersOf M (left_by M e xs)) (Becomes (system M) (MembersOf M xs) e)
  effect_members keep xs = λ y. Iff.rfl
  effect_members fresh xs = one_member
  effect_members empty xs = λ y. (Memᴰ.not-nil, λ h. absurd h)
  effect_members (go a) xs = λ y. (
    λ h. flat→ M.moves xs (a, y) (pick→ a (moves_of M xs) y h),
    λ (x, g, j). pick← a (moves_of M xs) y (flat← M.moves xs (a, y) x g j),
  )

  module _ (rule : FollowerRule) where
    abbrev RunState : Type 0
    RunState = rule.Kept × List M.State

    pub call_responds : (s : RunState) (c : rule.Call) → let t = call_on rule M s c in
        Responds rule (system M) (MembersOf M s.1) s.0 c t.0 (MembersOf M t.1.1) t.1.0
    call_responds s c =
        let e = (rule.response s.0 c (view_of M s.1)).effect in
        record {
          before = view_of M s.1;
          after = view_of M (left_by M e s.1);
          shown_before = view_shows s.1;
          shown_after = view_shows (left_by M e s.1);
          members = effect_members e s.1;
          answer = refl;
          kept = refl;
        }

    -- THE RUN IS THE MEANING: the answers are the rule's, and so is what is left
    pub machine_follows : (cs : List rule.Call) (s : RunState) → let t = run_leaves (call_on rule M) cs s in
        Follows rule (system M) (MembersOf M s.1) s.0 cs (run (call_on rule M) cs s) (MembersOf M t.1) t.0
    machine_follows cs s =
        let (xs, e, h, g) =
        run_follows rule (system M) (call_on rule M) (λ x. x) (λ s. MembersOf M s.1) (λ s. s.0) (λ s. Unit {0})
        (λ s c g. ((call_on rule M s c).0, refl, call_responds s c, tt)) cs s tt in
        rw (e ∙ map-id xs) h

    -- ANSWERS EXIST to every list, over every system that has a bisimulation with a machine's
    pub machine_answers : {N : System} {R : M.State → N.State → Type 0} → Bisimulation (system M) N R
        → (k : rule.Kept) (cs : List rule.Call) → Answers rule N k cs (run_fresh rule M k cs) (kept_fresh rule M k cs)
    machine_answers b k cs = fresh_carried b rule (from_fresh rule (system M) one_member (machine_follows cs (k, M.start ∷ [])))

-- A CHART has the steps and the end of its machine
pub chart_machine_lem : (start : ℕ) (ts : List Transition) → Bisimulation (system (chart_machine start ts)) (chart start ts) ◌≡◌
chart_machine_lem start ts = equal_states (λ v. decides_eqb v 0) (λ u a w. (to u a w, from u a w))
  where
    to : (u a w : ℕ) → Memᴰ (a, w) (pick u (map from_and_move ts)) → Memᴰ (u, a, w) ts
    to u a w h =
        let (t, i, e) = Memᴰ.of_map from_and_move ts (pick→ u (map from_and_move ts) (a, w) h) in
        Memᴰ.cast (sym (ap (λ (m : ℕ × (ℕ × ℕ)). (m.0, m.1.0, m.1.1)) e)) i

    from : (u a w : ℕ) → Memᴰ (u, a, w) ts → Memᴰ (a, w) (pick u (map from_and_move ts))
    from u a w h = pick← u (map from_and_move ts) (a, w) (Memᴰ.map from_and_move h)

pub chart_answers : (start : ℕ) (ts : List Transition) (rule : FollowerRule) (k : rule.Kept) (cs : List rule.Call)
    → Answers rule (chart start ts) k cs (run_fresh rule (chart_machine start ts) k cs) (kept_fresh rule (chart_machine start ts) k cs)
chart_answers start ts rule = machine_answers (chart_machine start ts) rule (chart_machine_lem start ts)

-- THE PUBLISHED RULES have the steps and the end of theirs
end_tested : (t : Target) → Decides (is_end_target t) (t ≡ end)
end_tested end = (λ e. refl, λ e. refl)
end_tested (to e) = (λ h. absurd (false≢true h), λ h. ap is_end_target h)

target-moves→ : (t : Target) (a : ℕ) (u : Target) → Memᴰ (a, u) (target_moves t) → Derives t a u
target-moves→ end a u h = absurd (Memᴰ.not-nil h)
target-moves→ (to e) a u h = by_rules (derivatives_sound e (a, u) h)

target-moves← : {t : Target} {a : ℕ} {u : Target} → Derives t a u → Memᴰ (a, u) (target_moves t)
target-moves← (by_rules s) = derivatives_complete s

pub rules_machine : (e : Expr) → Bisimulation (system (rule_machine e)) (rules e) ◌≡◌
rules_machine e = equal_states end_tested (λ t a u. (target-moves→ t a u, target-moves←))

pub rules_answers : (e : Expr) (rule : FollowerRule) (k : rule.Kept) (cs : List rule.Call)
    → Answers rule (rules e) k cs (run_fresh rule (rule_machine e) k cs) (kept_fresh rule (rule_machine e) k cs)
rules_answers e rule = machine_answers (rule_machine e) rule (rules_machine e)
