-- What the code of a call finds, by sets and marks, is what the definitions say of the state.
use Prim.Native.Nat.{ℕ, ◌+◌, ◌*◌, ◌/◌, ◌%◌, ◌≤◌, ◌<◌}
use mathlib.Core.Path.{◌≡◌, refl, sym, ◌∙◌, ap, ap₂, subst}
use mathlib.Core.Logic.Iff
use mathlib.Core.Logic.{◌⊎◌, inr, ⊎_elim, ◌↔◌, by_cases}
use mathlib.Core.Bool.{Bool, true, false, true≢false}
use mathlib.Core.List.Memᴰ
use mathlib.Core.List.{List, [], ◌∷◌, Memᴰ}
use native.Mathlib.Decide.{dec_lt}
use native.Mathlib.Omega.{arith}
use lib.Dec.{eqb, ltb}
use borrow.Author.Tests.{eq-eqb}
use lib.ListN.{length, get_or}
use lib.Seq.{get_or-take}
use Rattle.theory.specs.Tests.{Decides, some_in}
use Rattle.theory.specs.Followers.{Shows, go, Offered}
use Rattle.theory.specs.Events.{restart, event, taken, not_possible, Word, Answer, answer, told}
use Rattle.theory.specs.Runs.{Machine, system, MembersOf, nonempty, view_of, left_by}
use Rattle.theory.proofs.Tests.{decided, is_false, decides_same, decides_eqb, decides_ltb, decides_listed}
use Rattle.theory.proofs.Search.{look_below}
use Rattle.theory.proofs.Followers.{one_view}
use Rattle.theory.proofs.Runs.{view_shows, effect_members, chart_machine_lem}
use Rattle.std.specs.Prelude.{Result, Ok, Err, Some, None}
use Rattle.report.specs.declared.Refusal.{Refusal}
use Rattle.report.specs.declared.Refusal.TheVariants as refusal
use Rattle.report.specs.declared.Response.TheVariants.{NotPossible, Spoilt}
use Rattle.bits.specs.Bits.{Bytes, has_bit}
use Rattle.bits.specs.declared.sets.Set.{Set}
use Rattle.bits.specs.Words.{On}
use Rattle.bits.specs.Sets.{Has, empty_set, Empty, Last, Members, BytesOf}
use Rattle.bits.proofs.Determined.{test_one}
use Rattle.bits.proofs.Members.{none, has?}
use Rattle.chart.specs.Bodies.{vertices_of, start_of, WellFormed}
use Rattle.chart.specs.Steps.{transitions_of, ActsOf}
use Rattle.chart.specs.Systems.{machine_of}
use Rattle.chart.specs.Images.{Image, Offers, Marks, marked_of}
use Rattle.chart.proofs.Relations.{acts_member}
use Rattle.chart.proofs.Rows.{to_low}
use Rattle.follower.specs.declared.Follower.{Follower}
use Rattle.follower.specs.declared.Shown.{Shown}
use Rattle.follower.specs.declared.Moved.{Moved}
use Rattle.follower.specs.States.{state_in, InState, Unspoilt, IsSpoilt, members_of, set_of, state_with, spoilt_state, no_state}
use Rattle.follower.specs.Parts.{Same, Fits, StepBy, goes, stays, SetShows, TakenTo}
use Rattle.follower.specs.Calls.{state_stage, followed_as, answer_of, state_after, moved, ruled_of}
use Rattle.follower.specs.FollowerAnswers.{StateFits}
use Rattle.follower.proofs.Calls.{mark_low, unspoilt_kept, tests_state, state_ready, state_unready}
use Rattle.bits.proofs.SetBytes.{set_length, set_bytes_lem, same_bytes_lem}
use Rattle.follower.proofs.Bytes.{set_has, list-from→, list-from←, list_ascends, members_are}

-- the set that is read from a state's bytes
pub read_same : (f : Follower) {set : Set} → Members (λ (w : ℕ). On (get_or f.set (0 + w / 8) 0) (w % 8)) set → Same set (members_of f)
read_same f {set} M v = (
  (λ h. (members_are f v).1 (h.below, (decides_eqb _ 1).1 (rw (zero_plus (v / 8)) at ((M.exactly v h.below).0 h)))),
  (λ m. let (l, e) = (members_are f v).0 m in (M.exactly v l).1 (rw (zero_plus (v / 8)) ((decides_eqb _ 1).0 e))),
)
  where
    zero_plus : (n : ℕ) → 0 + n ≡ n
    zero_plus n = omega arith

-- and from the bytes that hold the state
pub read_held : (s : List ℕ) {set : Set} → Members (λ (w : ℕ). On (get_or s (0 + w / 8) 0) (w % 8)) set → Same set (members_of (state_in s))
read_held s {set} M = read_same (state_in s) (record {
  exactly = λ w l. rw (get_or-take 16 s (0 + w / 8) 0 (omega (arith, l))) (M.exactly w l);
})

-- the bytes of a set are those of a list with the same members
pub bytes_same : {r : List ℕ} (xs : List ℕ) {set : Set} → BytesOf set r → Same set xs → r ≡ set_of xs
bytes_same {r} xs {set} B S = same_bytes_lem r (set_of xs) B.long (set_length _) B.below (set_bytes_lem _)
    (λ v l. test_one (has_bit r v) (has_bit (set_of xs) v) (in_set_lem v l) (decides_same (Iff.symm (S v)) (set_has xs v l)))
  where
    in_set_lem : (v : ℕ) → v < 128 → Decides (has_bit r v) (Has set v)
    in_set_lem v l = decides_same (B.exactly v l) (decides_eqb _ 1)

module _ (b : List ℕ) (W : WellFormed b) (B : Bytes b) where
  abbrev M : Machine
  M = machine_of b

  -- the moves of the body's machine are the body's transitions
  pub move_acts : (u a w : ℕ) → Memᴰ (a, w) (M.moves u) ↔ ActsOf b u a w
  move_acts u a w = (
    (λ m. let (x, s, e) = (chart_machine_lem (start_of b) (transitions_of b)).forth u u refl a w m in (acts_member b u a w).1 (rw e s)),
    (λ k. let (x, s, e) = (chart_machine_lem (start_of b) (transitions_of b)).back u u refl a w
        ((acts_member b u a w).0 k) in subst (λ (y : ℕ). Memᴰ (a, y) (M.moves u)) e s),
  )

  -- THE TARGETS by an action
  pub image_same : {set targets : Set} {xs : List ℕ} {a : ℕ} → Same set xs → Members (Image b set a) targets
      → Same targets (left_by M (go a) xs)
  image_same {set} {targets} {xs} {a} S I w = (
    (λ h. let (u, m, k) = (I.exactly w h.below).0 h in (effect_members M (go a) xs w).1 (u, (S u).0 m, (move_acts u a w).1 k)),
    (λ m. let (u, g, j) = (effect_members M (go a) xs w).0 m in
        let k = (move_acts u a w).0 j in
        (I.exactly w (omega (arith, k.enters, to_low W k.at k.within))).1 (u, (S u).1 g, k)),
  )

  -- WHAT IS SHOWN: whether the end is in the set, and the actions that are marked
  module _ {set : Set} {xs marks : List ℕ} (S : Same set xs) (K : Marks (Offers b set) marks) {end : Bool}
      (E : Decides end (Has set 0)) where
    offers_same : (a : ℕ) → Memᴰ a (marked_of marks) ↔ Offered (system M) (MembersOf M xs) a
    offers_same a = (
      (λ m. let (p, l, e) = list-from→ _ 0 256 a m in
          let o = (K.exactly a (omega (arith, l))).0 ((decides_eqb _ 1).0 e) in
          (o.acts.to, (o.from, (S _).0 o.member, (move_acts _ a _).1 o.acts.acts))),
      (λ (w, (u, g, j)). let k = (move_acts u a w).0 j in
          let l : a < 256 = omega (arith, k.holds.is, B (4 * k.at + 4 + 1)) in
          list-from← _ 0 256 a (omega arith) (omega (arith, l))
          ((decides_eqb _ 1).1 ((K.exactly a l).1 (record { from = u; member = (S u).1 g; acts = record { to = w; acts = k } })))),
    )

    shown : Shows (system M) (MembersOf M xs) (record { some = nonempty xs; end = end; offered = marked_of marks })
    shown = record {
      some = (view_shows M xs).some;
      end = decides_same ((λ h. (0, (S 0).0 h, refl)), (λ (x, m, e). subst (Has set) ((decides_eqb x 0).0 e) ((S x).1 m))) E;
      ascending = list_ascends _ 0 256;
      offered = offers_same;
    }

    pub told_same : (w : Word) → told w (view_of M xs) ≡ answer w end (length (marked_of marks))
    told_same w = ap (told w) (one_view (system M) (view_shows M xs) shown)

  -- what the code shows of a set that has the members of a list
  shows_same : {set : Set} {xs : List ℕ} {s : Shown} → Same set xs → SetShows b set s
      → (w : Word) → answer w s.end s.offered ≡ told w (view_of M xs)
  shows_same {s = s} S T w = ap (answer w s.end) T.counts.many ∙ sym (told_same S T.counts.exactly T.holds_end w)

  -- and what it answers and leaves where a call is taken to it
  taken_same : {set : Set} {xs : List ℕ} {m : Moved} → Same set xs → TakenTo b set m
      → m ≡ moved (followed_as (told taken (view_of M xs))) (state_with (set_of xs) false)
  taken_same {m = m} S T =
      (λ i. record { answer = T.answer i; follower = record { set = m.follower.set; mark = T.unspoilt i } })
      ∙ ap₂ moved (ap followed_as (shows_same S T.shown taken)) (ap (λ (s : List ℕ). state_with s false) (bytes_same _ T.bytes S))

  -- AN EVENT on a state whose set has a member
  module _ (f : Follower) (a : ℕ) {set : Set} (S : Same set (members_of f)) (fits : Fits (vertices_of b) set f.mark) where
    has_some : nonempty (members_of f) ≡ true
    has_some = at (members_of f) (λ v h. (S v).0 h)
      where
        at : (xs : List ℕ) → ((v : ℕ) → Has set v → Memᴰ v xs) → nonempty xs ≡ true
        at [] g = absurd (fits.0.0 (λ v h. Memᴰ.not-nil (g v h)))
        at (x ∷ xs) g = refl

    -- the action has a target
    offers : Decides (some_in (eqb a) (view_of M (members_of f)).offered) ((w : ℕ) × Image b set a w)
    offers =
        decides_same (Iff.trans ((view_shows M (members_of f)).offered a) (to, from)) (decides_listed a (view_of M (members_of f)).offered)
      where
        to : Offered (system M) (MembersOf M (members_of f)) a → (w : ℕ) × Image b set a w
        to (w, (u, g, j)) = (w, (u, (S u).1 g, (move_acts u a w).0 j))

        from : (w : ℕ) × Image b set a w → Offered (system M) (MembersOf M (members_of f)) a
        from (w, (u, h, k)) = (w, (u, (S u).0 h, (move_acts u a w).1 k))

    -- the state is spoilt: it stays
    pub event_stays : IsSpoilt f → moved (Ok Spoilt) f ≡ ruled_of b f (event a)
    unfolding answer_of state_after
    event_stays u = rw (has_some, eq-eqb f.mark 1 u) (ap (moved (Ok Spoilt)) (λ i. record { set = f.set; mark = u i }))

    module _ (n : ¬ IsSpoilt f) where
      unspoilt : Unspoilt f
      unspoilt = omega (arith, n, fits.1)

      -- the action has no target: the state is spoilt
      pub event_spoils : {s : Shown} → StepBy b set a None → SetShows b set s
          → moved (Ok (NotPossible s.end s.offered)) (spoilt_state f) ≡ ruled_of b f (event a)
      unfolding answer_of state_after
      event_spoils (stays none) X =
          let q = is_false offers (λ (w, i). none w i) in
          rw (has_some, unspoilt_kept unspoilt, q)
          (ap (λ (y : Answer). moved (followed_as y) (spoilt_state f)) (shows_same S X not_possible))

      -- it has some: the set becomes all of them
      pub event_goes : {targets : Set} {m : Moved} → StepBy b set a (Some targets) → TakenTo b targets m → m ≡ ruled_of b f (event a)
      unfolding answer_of state_after
      event_goes {targets} (goes some I) X =
          let q = offers.1 at_some in
          rw (has_some, unspoilt_kept unspoilt, q) (taken_same (image_same S I) X)
        where
          at_some : (w : ℕ) × Image b set a w
          at_some = ⊎_elim (λ (w, l, h). (w, (I.exactly w l).0 h)) (λ g. absurd (some (λ w h. g w h.below h)))
              (look_below (has? targets) 128)

  -- THE STEP of the code
  pub step_stays : {set targets : Set} {a : ℕ} → Members (Image b set a) targets → Empty targets → StepBy b set a None
  step_stays I e = stays (λ w i. let k = i.2 in e w ((I.exactly w (omega (arith, k.enters, to_low W k.at k.within))).1 i))

  -- A RESTART: the start alone
  pub restart_goes : {set : Set} {m : Moved} → ((y : ℕ) → Has set y ↔ (y ≡ start_of b)) → TakenTo b set m
      → m ≡ ruled_of b no_state restart
  unfolding answer_of state_after
  restart_goes {set} H X =
      let K : Same set (start_of b ∷ []) = λ v. ((λ h. Memᴰ.head ((H v).0 h)), (λ m. (H v).1 (Memᴰ.eq_of_singleton m))) in
      taken_same K X

-- 53
module _ {set : Set} {mark : ℕ} where
  pub fits_not : {n : ℕ} → ¬ Fits n set mark → (false ≡ true) ↔ Fits n set mark
  fits_not g = ((λ f. absurd (true≢false (sym f))), (λ f. absurd (g f)))

  pub fits_highest : {h n : ℕ} → mark ≤ 1 → Last set h → (ltb h n ≡ true) ↔ Fits n set mark
  fits_highest {h} {n} m L = (
    (λ e. let l = (decides_ltb h n).0 e in (
      (
        (λ s. s h L.has),
        λ w g. by_cases (dec_lt h w)
            (λ k. absurd (L.above w k g)) (λ k. omega (arith, l, k)),
      ),
      m,
    )),
    (λ ((s, g), m). (decides_ltb h n).1 (g h L.has)),
  )

-- what the code asks of the set and of the mark is 53
pub fits_passes : (b : List ℕ) (f : Follower) {set : Set} → Same set (members_of f) → StateFits b f ↔ Fits (vertices_of b) set f.mark
fits_passes b f {set} S = (to, from)
  where
    in_set_lem : (v : ℕ) → InState f v ↔ Has set v
    in_set_lem v = Iff.trans (Iff.symm (members_are f v)) (Iff.symm (S v))

    to : StateFits b f → Fits (vertices_of b) set f.mark
    to p = (
      ((λ e. e _ ((in_set_lem _).0 p.some.1)), λ w h. p.below w ((in_set_lem w).1 h)),
      (mark_low f.mark).0 p.marked,
    )

    from : Fits (vertices_of b) set f.mark → StateFits b f
    from ((n, g), m) = record {
      marked = (mark_low f.mark).1 m;
      some = ⊎_elim (λ (x, l, h). (x, (in_set_lem x).1 h)) (λ k. absurd (n (λ w h. k w h.below h))) (look_below (has? set) 128);
      below = λ w i. g w ((in_set_lem w).0 i);
    }

-- the stage that the code answers
abbrev pub Readied : List ℕ → Set → ℕ → Result Unit Refusal → Type 0
Readied b set mark r =
    (Fits (vertices_of b) set mark → r ≡ Ok tt) × (¬ Fits (vertices_of b) set mark → r ≡ Err refusal.FollowerSet)

module _ (b : List ℕ) (f : Follower) {set : Set} {r : Result Unit Refusal} (S : Same set (members_of f)) (R : Readied b set f.mark r) where
  pub ready_stage : r ≡ state_stage b f
  ready_stage = by_cases (decided (tests_state b f))
      (λ p. R.0 ((fits_passes b f S).0 p) ∙ sym (state_ready p))
      (λ n. R.1 (λ p. n ((fits_passes b f S).1 p)) ∙ sym (state_unready n))

  pub ready_fits : r ≡ Ok tt → Fits (vertices_of b) set f.mark
  ready_fits e = by_cases (decided (tests_state b f))
      (λ p. (fits_passes b f S).0 p)
      (λ n. let q : Err refusal.FollowerSet ≡ (Ok tt) = sym (R.1 (λ p. n ((fits_passes b f S).1 p))) ∙ e in
      let z : ◌≡◌ {A = ℕ} 0 1 = cc in absurd (omega arith))

-- the set of the start alone
pub only_start : (b : List ℕ) {none_yet set : Set} {start : ℕ} → none_yet ≡ empty_set → start ≡ start_of b
    → ((y : ℕ) → Has set y ↔ (Has none_yet y ⊎ (y ≡ start)))
    → (y : ℕ) → Has set y ↔ (y ≡ start_of b)
only_start b e f W y = ((λ h. ⊎_elim (λ g. absurd (none y (rw e at g))) (λ z. z ∙ f) ((W y).0 h)), (λ z. (W y).1 (inr (z ∙ sym f))))
