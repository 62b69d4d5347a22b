-- One call: what the definitions answer and leave is what the documents say, both ways.
use Prim.Native.Nat.{ℕ, ◌<◌, ◌≤◌}
use mathlib.Core.Path.{◌≡◌, refl, sym, ap, ap₂, ◌∙◌}
use mathlib.Core.Logic.Iff
use mathlib.Core.Logic.{◌≢◌, ◌⊎◌, inl, inr, ⊎_elim, ◌↔◌, by_cases}
use mathlib.Core.Bool.{Bool, true, false, true≢false}
use mathlib.Core.List.Memᴰ
use mathlib.Core.List.{List, [], ◌∷◌, ◌++◌, Memᴰ}
use native.Mathlib.Decide.{ℕ_discrete}
use native.Mathlib.Omega.{arith}
use lib.Dec.{eqb}
use lib.ListN.{length, get_or, take, length-append, get_or-append}
use lib.Seq.{length-take-le, get_or-take, get_or_at, take_at, ext_get_or}
use borrow.Author.Tests.{eq-eqb, ne_eqb, eqb-true}
use Rattle.theory.specs.Tests.{Decides, some_in}
use Rattle.theory.specs.Followers.{StateSet, SameMembers, Offered, Closed, View, Shows, Effect, keep, fresh, empty, go, Becomes, Responds}
use Rattle.theory.specs.Events.{Call, restart, event, Answer, taken, told, step_reply, event_rule}
use Rattle.theory.specs.Runs.{view_of, left_by, call_on}
use Rattle.theory.proofs.Tests.{decided, is_false, decides_same, decides_and, decides_not, decides_leb, decides_in, decides_listed, not_so}
use Rattle.theory.proofs.Systems.{identity, lift_equal, equal_lift}
use Rattle.theory.proofs.Followers.{shows_carried, responds_agree, responds_carried, responds_same, responds_within, responds_some, chart_closed}
use Rattle.theory.proofs.Events.{restart_taken, event_taken, event_not_possible, event_spoilt, event_never_empties}
use Rattle.theory.proofs.Runs.{view_shows, call_responds, chart_machine_lem}
use Rattle.std.specs.Prelude.{Result, Ok, Err}
use Rattle.report.specs.declared.Refusal.{Refusal}
use Rattle.report.specs.declared.Refusal.TheVariants as refusal
use Rattle.report.specs.declared.Response.{Response}
use Rattle.report.specs.declared.Response.TheVariants.{NotPossible, Taken}
use Rattle.report.specs.Numbers.{flag}
use Rattle.report.proofs.NumberLaws.{flag_back}
use Rattle.bits.specs.Bits.{Bytes, has_bit}
use Rattle.bits.proofs.Determined.{test_one}
use Rattle.chart.specs.Bodies.{vertices_of, start_of, WellFormed}
use Rattle.chart.specs.Checks.{check_of}
use Rattle.chart.specs.Systems.{system_of, machine_of}
use Rattle.chart.proofs.Checks.{well_formed, passes}
use Rattle.chart.proofs.Refusals.{chart_refused}
use Rattle.chart.proofs.Relations.{acts_member}
use Rattle.follower.specs.declared.Follower.{Follower}
use Rattle.follower.specs.declared.Moved.{Moved}
use Rattle.follower.specs.States.{state_size, bytes_in, state_in, Formed, InState, members_of, set_of, Unspoilt, IsSpoilt, Marked, kept_in, state_with, spoilt_state}
use Rattle.follower.specs.Calls.{state_test, state_stage, ready_of, followed_as, answer_of, set_by, state_after, moved, ruled_of, called_on, in_bytes, by_other_length, lent_on}
use Rattle.follower.specs.FollowerAnswers.{FreshStart, StateFits, Possible, Shown, CallAnswer, unfit, restarts, goes, spoils, stays, LentAnswer, other_length, holds_state}
use Rattle.follower.specs.FollowerAnswers as answers
use Rattle.follower.specs.Lists.{RuleResponds}
use Rattle.bits.proofs.SetBytes.{taken_bytes, set_length, set_bytes_lem, same_bytes_lem}
use Rattle.follower.proofs.Bytes.{members_are, set_has}

-- STATES with the same vertices and the same mark are the same
pub same_state : {f g : Follower} → Formed f → Formed g → ((v : ℕ) → InState f v ↔ InState g v) → f.mark ≡ g.mark → f ≡ g
same_state {f} {g} F G e m =
    let s = same_bytes_lem f.set g.set F.sixteen G.sixteen F.bytes G.bytes
    (λ v h. test_one (has_bit f.set v) (has_bit g.set v) (λ i. ((e v).0 (h, i)).1, λ i. ((e v).1 (h, i)).1) Iff.rfl) in
    λ i. record { set = s i; mark = m i }

formed_of : (xs : List ℕ) (spoilt : Bool) → Formed (state_with (set_of xs) spoilt)
formed_of xs spoilt = record { sixteen = set_length _; bytes = set_bytes_lem _ }

-- as many bytes as a state has hold one, and are its bytes
pub formed_in : (s : List ℕ) → Bytes s → length s ≡ state_size → Formed (state_in s)
formed_in s B l = record { sixteen = length-take-le 16 s (omega (arith, l)); bytes = taken_bytes 16 s B }

pub bytes_back : (s : List ℕ) → length s ≡ state_size → bytes_in (state_in s) ≡ s
bytes_back s l =
    let t : length (take 16 s) ≡ 16 = length-take-le 16 s (omega (arith, l)) in
    ext_get_or 0 (take 16 s ++ (get_or s 16 0 ∷ [])) s (length-append (take 16 s) (get_or s 16 0 ∷ []) ∙ rw (t, l) refl)
    (λ k h. by_cases (ℕ_discrete k 16)
    (λ e. rw e (get_or_at (take 16 s) (get_or s 16 0) [] 0 16 t))
    (λ n. let g : k < 16 = omega (arith, h, length-append (take 16 s) (get_or s 16 0 ∷ []), t, n) in
    get_or-append (take 16 s) (get_or s 16 0 ∷ []) 0 k (omega (arith, g, t)) ∙ get_or-take 16 s k 0 g))

pub bytes_long : (f : Follower) → length f.set ≡ 16 → length (bytes_in f) ≡ state_size
bytes_long f l = length-append f.set (f.mark ∷ []) ∙ rw l refl

-- and the bytes of a state hold it
pub state_back : (f : Follower) → length f.set ≡ 16 → state_in (bytes_in f) ≡ f
state_back f l =
    let s = take_at f.set (f.mark ∷ []) 16 l in
    let m = get_or_at f.set f.mark [] 0 16 l in
    λ i. record { set = s i; mark = m i }

-- THE MARK is 0 or 1: what 53 asks, and what the rule keeps
pub mark_low : (m : ℕ) → ((m ≡ 0) ⊎ (m ≡ 1)) ↔ (m ≤ 1)
mark_low m = (
  ⊎_elim (λ e. omega (arith, e)) (λ e. omega (arith, e)),
  λ l. by_cases (ℕ_discrete m 0) (λ e. inl e) (λ n. inr (omega (arith, l, n))),
)

pub not_spoilt : {m : ℕ} → (m ≡ 0) ⊎ (m ≡ 1) → ¬ (m ≡ 1) → m ≡ 0
not_spoilt k n = ⊎_elim (λ e. e) (λ e. absurd (n e)) k

pub unspoilt_kept : {m : ℕ} → m ≡ 0 → eqb m 1 ≡ false
unspoilt_kept e = rw e refl

pub kept_unspoilt : {m : ℕ} → (m ≡ 0) ⊎ (m ≡ 1) → eqb m 1 ≡ false → m ≡ 0
kept_unspoilt {m} g k = not_spoilt g (λ e. true≢false (sym (eq-eqb m 1 e) ∙ k))

same_mark : {m n : ℕ} → (m ≡ 0) ⊎ (m ≡ 1) → (n ≡ 0) ⊎ (n ≡ 1) → eqb m 1 ≡ eqb n 1 → m ≡ n
same_mark (inl e) g k = e ∙ sym (kept_unspoilt g (sym k ∙ unspoilt_kept e))
same_mark {m} {n} (inr e) g k = e ∙ sym (eqb-true n 1 (sym k ∙ eq-eqb m 1 e))

flag_marked : (spoilt : Bool) → (flag spoilt ≡ 0) ⊎ (flag spoilt ≡ 1)
flag_marked true = inr refl
flag_marked false = inl refl

pub mark_flag : {m : ℕ} → (m ≡ 0) ⊎ (m ≡ 1) → m ≡ flag (eqb m 1)
mark_flag (inl e) = rw e refl
mark_flag (inr e) = rw e refl

-- THE TEST of 53 decides what 53 asks
pub tests_state : (b : List ℕ) (f : Follower) → Decides (state_test b f) (StateFits b f)
unfolding state_test
tests_state b f =
    decides_same (
      (λ (((v, m), none), l). record {
        some = (v, (members_are f v).0 m);
        below = λ w i. below w (λ l. none (w, (members_are f w).1 i, l));
        marked = (mark_low f.mark).1 l;
      }),
      (λ p. (
        ((p.some.0, (members_are f _).1 p.some.1), λ (v, m, l). omega (arith, p.below v ((members_are f v).0 m))),
        (mark_low f.mark).0 p.marked,
      )),
    )
    (decides_and (decides_and (view_shows (machine_of b) (members_of f)).some
    (decides_not (decides_in (λ v. decides_leb (vertices_of b) v) (members_of f)))) (decides_leb f.mark 1))
  where
    below : (w : ℕ) → ¬ (vertices_of b ≤ w) → w < vertices_of b
    below w n = omega arith

pub state_ready : {b : List ℕ} {f : Follower} → StateFits b f → state_stage b f ≡ Ok tt
state_ready {b} {f} p = rw ((tests_state b f).1 p) refl

pub state_unready : {b : List ℕ} {f : Follower} → ¬ StateFits b f → state_stage b f ≡ Err refusal.FollowerSet
state_unready {b} {f} n = rw (is_false (tests_state b f) n) refl

-- THE STAGES of a call: 20 and 21; 53; then the rule
module _ (b : List ℕ) (f : Follower) (c : Call) where
  pub called_refused : {p : Refusal} → check_of b ≡ Err p → called_on b f c ≡ moved (Err p) f
  unfolding called_on
  called_refused e = rw e refl

  pub called_unready : {p : Refusal} → check_of b ≡ Ok tt → ready_of b f c ≡ Err p → called_on b f c ≡ moved (Err p) f
  unfolding called_on
  called_unready e r = rw (e, r) refl

  pub called_ruled : check_of b ≡ Ok tt → ready_of b f c ≡ Ok tt → called_on b f c ≡ ruled_of b f c
  unfolding called_on
  called_ruled e r = rw (e, r) refl

-- a restart takes nothing from the state
pub restart_alike : (b : List ℕ) (f g : Follower) → ruled_of b f restart ≡ ruled_of b g restart
unfolding answer_of state_after
restart_alike b f g = refl

-- 53 is asked of an event only
abbrev pub Ready : List ℕ → Follower → Call → Type 0
Ready b f restart = Unit {0}
Ready b f (event a) = StateFits b f

-- what is handed back or left is the rule's, over the chart of the body
pub record Ruled (b : List ℕ) (f : Follower) (c : Call) (m : Moved) : Type 0 where
  pub answer : Answer
  pub answered : m.answer ≡ followed_as answer
  pub formed : Formed m.follower
  pub marked : Marked m.follower
  pub responds : RuleResponds b f c answer m.follower

-- a call that the rule answers where so much is kept
as_kept : (b : List ℕ) (f g : Follower) {c : Call} {x : Answer} {k l : Bool} → kept_in f ≡ k → kept_in g ≡ l
    → Responds event_rule (system_of b) (InState f) k c x (InState g) l → RuleResponds b f c x g
as_kept b f g p q r = rw (p, q) r

-- OVER A BODY THAT PASSES
module _ {b : List ℕ} (W : WellFormed b) where
  closed : Closed (system_of b) (λ v. v < vertices_of b)
  closed =
      chart_closed W.header.start_high
      (λ u a w m. let s = (acts_member b u a w).1 m in omega (arith, s.enters, (W.each s.at s.within).to_high))

  -- the list of a state shows what its set does
  pub shown : (f : Follower) → Shows (system_of b) (InState f) (view_of (machine_of b) (members_of f))
  shown f = shows_carried (chart_machine_lem _ _) (lift_equal (members_are f)) (view_shows (machine_of b) (members_of f))

  -- the list that a call leaves, by the rule over the chart
  listed : (f : Follower) (c : Call) → let t = call_on event_rule (machine_of b) (kept_in f, members_of f) c in
      Responds event_rule (system_of b) (InState f) (kept_in f) c t.0 (λ v. Memᴰ v t.1.1) t.1.0
  listed f c =
      let r = call_responds (machine_of b) event_rule (kept_in f, members_of f) c in
      let (Z, q, m) = responds_carried (chart_machine_lem _ _) event_rule (lift_equal (members_are f)) r in
      responds_same event_rule (system_of b) (λ v. Iff.symm (equal_lift m v)) q

  -- the bytes of a list of vertices have just these
  set_of_lem : (xs : List ℕ) → ((v : ℕ) → Memᴰ v xs → v < vertices_of b)
      → (v : ℕ) → Memᴰ v xs ↔ ((v < 128) × (has_bit (set_of xs) v ≡ true))
  set_of_lem xs h v = (
    λ m. let l : v < 128 = omega (arith, h v m, W.header.vertices_high) in (l, (set_has xs v l).1 m),
    λ (l, e). (set_has xs v l).0 e,
  )

  -- so have those that an effect leaves
  set_left : (f : Follower) (e : Effect) → ((v : ℕ) → Memᴰ v (left_by (machine_of b) e (members_of f)) → v < vertices_of b)
      → (v : ℕ) → Memᴰ v (left_by (machine_of b) e (members_of f)) ↔ ((v < 128) × (has_bit (set_by b f e) v ≡ true))
  set_left f keep h = members_are f
  set_left f fresh h = set_of_lem _ h
  set_left f empty h = set_of_lem _ h
  set_left f (go a) h = set_of_lem _ h

  formed_left : {f : Follower} (e : Effect) (spoilt : Bool) → Formed f → Formed (state_with (set_by b f e) spoilt)
  formed_left keep k F = record { sixteen = F.sixteen; bytes = F.bytes }
  formed_left fresh k F = formed_of _ k
  formed_left empty k F = formed_of _ k
  formed_left (go a) k F = formed_of _ k

  -- A FRESH START is what a restart leaves: the start's bit alone
  abbrev fresh_state : Follower
  fresh_state = state_with (set_of (start_of b ∷ [])) false

  starts : (v : ℕ) → Memᴰ v (start_of b ∷ []) ↔ InState fresh_state v
  starts = set_of_lem (start_of b ∷ []) (λ v m. let e : v ≡ start_of b = Memᴰ.eq_of_singleton m in omega (arith, e, W.header.start_high))

  pub fresh_start : FreshStart b fresh_state
  fresh_start = record {
    formed = formed_of _ false;
    unspoilt = refl;
    alone = λ v. Iff.trans (Iff.symm (starts v)) (Memᴰ.eq_of_singleton, λ e. Memᴰ.head e);
  }

  pub fresh_fits : {f : Follower} → FreshStart b f → StateFits b f
  fresh_fits F = record {
    marked = inl F.unspoilt;
    some = (start_of b, (F.alone (start_of b)).1 refl);
    below = λ v i. let e = (F.alone v).0 i in omega (arith, e, W.header.start_high);
  }

  -- ONE CALL by the rule
  restart_ruled : (f : Follower) → Ruled b f restart (ruled_of b f restart)
  unfolding answer_of state_after
  restart_ruled f = record {
    answer = told taken (view_of (machine_of b) (start_of b ∷ []));
    answered = refl;
    formed = formed_of _ false;
    marked = inl refl;
    responds = restart_taken (shown f)
        (shows_carried (chart_machine_lem _ _) (lift_equal starts) (view_shows (machine_of b) (start_of b ∷ [])))
        fresh_start.alone;
  }

  event_ruled : (f : Follower) (a : ℕ) → Formed f → StateFits b f → Ruled b f (event a) (ruled_of b f (event a))
  unfolding answer_of state_after
  event_ruled f a F p =
      let e = (event_rule.response (kept_in f) (event a) (view_of (machine_of b) (members_of f))).effect in
      let k = (call_on event_rule (machine_of b) (kept_in f, members_of f) (event a)).1.0 in
      let r = listed f (event a) in
      record {
        answer = (call_on event_rule (machine_of b) (kept_in f, members_of f) (event a)).0;
        answered = refl;
        formed = formed_left e k F;
        marked = flag_marked k;
        responds =
            as_kept b f (state_with (set_by b f e) k) refl (flag_back k)
            (responds_same event_rule (system_of b)
            (set_left f e (responds_within event_rule (system_of b) closed p.below r)) r);
      }

  pub call_ruled : (f : Follower) (c : Call) → Formed f → Ready b f c → Ruled b f c (called_on b f c)
  call_ruled f restart F p = rw (called_ruled b f restart (passes b W) refl) (restart_ruled f)
  call_ruled f (event a) F p = rw (called_ruled b f (event a) (passes b W) (state_ready p)) (event_ruled f a F p)

  -- a state that a restart leaves, whatever it was before
  pub fresh_called : (f : Follower) → FreshStart b (called_on b f restart).follower
  unfolding state_after
  fresh_called f = rw (called_ruled b f restart (passes b W) refl) fresh_start

  -- and 53 passes again
  pub still_fits : {f g : Follower} {c : Call} {x : Answer} → StateFits b f → Marked g → RuleResponds b f c x g → StateFits b g
  still_fits p m r = record {
    marked = m;
    some = responds_some event_rule (system_of b) event_never_empties p.some r;
    below = responds_within event_rule (system_of b) closed p.below r;
  }

  -- WHAT A SET SHOWS, and the two values of it
  view_shown : {f : Follower} {w : View} → Shows (system_of b) (InState f) w → Shown b f w.end (length w.offered)
  view_shown {f} {w} h = record {
    holds_end = decides_same ((λ (v, i, e). rw e at i), λ i. (0, i, refl)) h.end;
    actions = w.offered;
    ascending = h.ascending;
    offered = h.offered;
    number = refl;
  }

  abbrev view_by : {f : Follower} {end : Bool} {n : ℕ} → Shown b f end n → View
  view_by {f} {end} h = record { some = (view_of (machine_of b) (members_of f)).some; end = end; offered = h.actions }

  shown_view : {f : Follower} {end : Bool} {n : ℕ} (h : Shown b f end n) → Shows (system_of b) (InState f) (view_by h)
  shown_view {f} h = record {
    some = (shown f).some;
    end = decides_same ((λ i. (0, i, refl)), λ (v, i, e). rw e at i) h.holds_end;
    ascending = h.ascending;
    offered = h.offered;
  }

  -- FROM THE RULE to what the documents say: an event on a state that is not spoilt, by whether it is offered
  unspoilt_says : {a : ℕ} {f g : Follower} {x : Answer} {v w : View} → Formed f → StateFits b f → Unspoilt f → Formed g → Marked g
      → Shows (system_of b) (InState f) v → Shows (system_of b) (InState g) w
      → (d : Bool) → some_in (eqb a) v.offered ≡ d
      → SameMembers (system_of b) (InState g) (Becomes (system_of b) (InState f) (step_reply false d a).effect)
      → x ≡ (step_reply false d a).answer w → kept_in g ≡ (step_reply false d a).kept w
      → CallAnswer b f (event a) (followed_as x) g
  unspoilt_says {a} {v = v} F p u G n h k true e m q l =
      rw q (goes W p u ((h.offered a).0 ((decides_listed a v.offered).0 e)) G m (kept_unspoilt n l) (view_shown k))
  unspoilt_says {a} {f} {g} {v = v} {w = w} F p u G n h k false e m q l =
      let o : ¬ Possible b f a = λ o. not_so (decides_listed a v.offered) e ((h.offered a).1 o) in
      let z : spoilt_state f ≡ g = sym (same_state G (formed_left keep true F) m (eqb-true g.mark 1 l)) in
      rw (q, ← z) (spoils W p u o (view_shown (shows_carried (identity (system_of b)) (lift_equal m) k)))

  -- and on a spoilt one
  spoilt_says : {a : ℕ} {f g : Follower} {x : Answer} → Formed f → StateFits b f → IsSpoilt f → Formed g → RuleResponds b f (event a) x g
      → CallAnswer b f (event a) (followed_as x) g
  spoilt_says {f = f} {g} F p u G r =
      let some : r.before.some ≡ true = r.shown_before.some.1 p.some in
      let k = eq-eqb f.mark 1 u in
      let z : f ≡ g = sym (same_state G F (rw (k, some) at r.members) (eqb-true g.mark 1 (rw (k, some) at r.kept) ∙ sym u)) in
      rw (rw (k, some) at r.answer, ← z) (stays W p u)

  rule_says : (c : Call) {f g : Follower} {x : Answer} → Formed f → Ready b f c → Formed g → Marked g → RuleResponds b f c x g
      → CallAnswer b f c (followed_as x) g
  rule_says restart F p G n r =
      rw r.answer
      (restarts W (record { formed = G; alone = r.members; unspoilt = kept_unspoilt n r.kept }) (view_shown r.shown_after))
  rule_says (event a) {f} F p G n r = ⊎_elim
      (λ (u : Unspoilt f).
      let some : r.before.some ≡ true = r.shown_before.some.1 p.some in
      let k = unspoilt_kept u in
      unspoilt_says F p u G n r.shown_before r.shown_after (some_in (eqb a) r.before.offered) refl
      (rw (k, some) at r.members) (rw (k, some) at r.answer) (rw (k, some) at r.kept))
      (λ (u : IsSpoilt f). spoilt_says F p u G r)
      p.marked

  -- AND BACK: the rule has one answer, and one state after it
  agrees : {f g : Follower} {c : Call} {x : Answer} → Formed f → Ready b f c → Formed g → Marked g → RuleResponds b f c x g
      → called_on b f c ≡ moved (followed_as x) g
  agrees {f} {g} {c} F p G n r =
      let R = call_ruled f c F p in
      let (e, k, m) = responds_agree (identity (system_of b)) event_rule (lift_equal (λ v. Iff.rfl)) R.responds r in
      ap₂ moved (R.answered ∙ ap followed_as e) (same_state R.formed G (equal_lift m) (same_mark R.marked n k))

  -- the event 0 is never possible: no transition has it
  pub zero_not_offered : (P : StateSet (system_of b)) → ¬ Offered (system_of b) P 0
  zero_not_offered P (w, (v, p, m)) =
      let s = (acts_member b v 0 w).1 m in
      omega (arith, s.holds.is, (W.each s.at s.within).action_low)

-- ONE CALL ON A STATE
module _ (b : List ℕ) where
  pub refused_not : {p : Refusal} → check_of b ≡ Err p → ¬ WellFormed b
  refused_not {p} e W = let q : Err p ≡ (Ok tt) = sym e ∙ passes b W in let z : ◌≡◌ {A = ℕ} 0 1 = cc in omega arith

  abbrev pub Gives : Moved → Result Response Refusal → Follower → Type 0
  Gives m x g = (m.answer ≡ x) × (m.follower ≡ g)

  gives : {m : Moved} {x : Result Response Refusal} {g : Follower} → m ≡ moved x g → Gives m x g
  gives e = (ap (λ (m : Moved). m.answer) e, ap (λ (m : Moved). m.follower) e)

  module _ (f : Follower) (F : Formed f) where
    abbrev Answered : Call → Moved → Type 0
    Answered c m = CallAnswer b f c m.answer m.follower

    call_answer : (c : Call) → Answered c (called_on b f c)
    call_answer c = at_check (check_of b) refl
      where
        ready? : (c : Call) → Dec (Ready b f c)
        ready? restart = yes tt
        ready? (event a) = decided (tests_state b f)

        unready : (c : Call) → WellFormed b → ¬ Ready b f c → Answered c (called_on b f c)
        unready restart W n = absurd (n tt)
        unready (event a) W n = rw (called_unready b f (event a) (passes b W) (state_unready n)) (unfit W n)

        at_check : (x : Result Unit Refusal) → check_of b ≡ x → Answered c (called_on b f c)
        at_check (Err p) e = rw (called_refused b f c e) (answers.CallAnswer.other_chart ((chart_refused b p).0 e))
        at_check (Ok tt) e =
            let W = well_formed b e in
            by_cases (ready? c)
            (λ p. let R = call_ruled W f c F p in rw R.answered (rule_says W c F p R.formed R.marked R.responds))
            (unready c W)

    answer_call : {c : Call} {x : Result Response Refusal} {g : Follower} → CallAnswer b f c x g → called_on b f c ≡ moved x g
    answer_call {c} (answers.CallAnswer.other_chart r) = called_refused b f c ((chart_refused b _).1 r)
    answer_call {c} (unfit W n) = called_unready b f c (passes b W) (state_unready n)
    answer_call (restarts {g} {end} W S h) =
        agrees W F tt S.formed (inl S.unspoilt)
        (as_kept b f g refl (unspoilt_kept S.unspoilt) (restart_taken (shown W f) (shown_view W h) S.alone))
        ∙ ap (λ (n : ℕ). moved (Ok (Taken end n)) g) h.number
    answer_call (goes {a} {g} {end} W p u o G m k h) =
        agrees W F p G (inl k)
        (as_kept b f g (unspoilt_kept u) (unspoilt_kept k) (event_taken (shown W f) (shown_view W h) a o m))
        ∙ ap (λ (n : ℕ). moved (Ok (Taken end n)) g) h.number
    answer_call (spoils {a} {end} W p u n h) =
        agrees W F p (formed_left W keep true F) (inr refl)
        (as_kept b f (spoilt_state f) (unspoilt_kept u) refl
        (event_not_possible (shown W f) (shown_view W h) a p.some n (λ v. Iff.rfl)))
        ∙ ap (λ (n : ℕ). moved (Ok (NotPossible end n)) (spoilt_state f)) h.number
    answer_call (stays {a} W p u) =
        agrees W F p F (inr u)
        (as_kept b f f (eq-eqb f.mark 1 u) (eq-eqb f.mark 1 u) (event_spoilt (shown W f) (shown W f) a p.some (λ v. Iff.rfl)))

    -- it answers x and leaves g exactly where the documents say so
    pub call_says : (c : Call) (x : Result Response Refusal) (g : Follower) → Gives (called_on b f c) x g ↔ CallAnswer b f c x g
    call_says c x g = ((λ (p, q). rw (p, q) at (call_answer c)), λ a. gives (answer_call a))

  -- ONE CALL ON LENT BYTES: as many as a state has, or another number
  pub lent_held : (s : List ℕ) (c : Call) → length s ≡ state_size → lent_on b s c ≡ in_bytes (called_on b (state_in s) c)
  unfolding lent_on
  lent_held s c l = rw (eq-eqb (length s) state_size l) refl

  pub lent_called : (s : List ℕ) (c : Call) {f : Follower} {m : Moved} → length s ≡ state_size → f ≡ state_in s → m ≡ called_on b f c
      → (m.answer ≡ (lent_on b s c).0) × (bytes_in m.follower ≡ (lent_on b s c).1)
  lent_called s c l e q = rw (lent_held s c l, q, e) (refl, refl)

  pub lent_other : (s : List ℕ) (c : Call) → length s ≢ state_size → lent_on b s c ≡ (by_other_length (check_of b), s)
  unfolding lent_on
  lent_other s c n = rw (ne_eqb (length s) state_size n) refl

  module _ (s : List ℕ) (B : Bytes s) (c : Call) where
    lent_answer : LentAnswer b s c (lent_on b s c).0 (lent_on b s c).1
    lent_answer =
        by_cases (ℕ_discrete (length s) state_size)
        (λ l. rw (lent_held s c l) (holds_state l (call_answer (state_in s) (formed_in s B l) c)))
        (λ n. rw (lent_other s c n) (at_check n (check_of b) refl))
      where
        at_check : length s ≢ state_size → (x : Result Unit Refusal) → check_of b ≡ x → LentAnswer b s c (by_other_length (check_of b)) s
        at_check n (Err p) e = rw e (answers.LentAnswer.other_chart ((chart_refused b p).0 e))
        at_check n (Ok tt) e = rw e (other_length (well_formed b e) n)

    answer_lent : {x : Result Response Refusal} {t : List ℕ} → LentAnswer b s c x t → lent_on b s c ≡ (x, t)
    answer_lent (answers.LentAnswer.other_chart {p} r) =
        let e = (chart_refused b p).1 r in
        by_cases (ℕ_discrete (length s) state_size)
        (λ l. lent_held s c l ∙ ap in_bytes (called_refused b (state_in s) c e) ∙ ap (λ (t : List ℕ). (Err p, t)) (bytes_back s l))
        (λ n. lent_other s c n ∙ rw e refl)
    answer_lent (other_length W n) = lent_other s c n ∙ rw (passes b W) refl
    answer_lent (holds_state l a) = lent_held s c l ∙ ap in_bytes (answer_call (state_in s) (formed_in s B l) a)

    -- it answers x and leaves t exactly where the documents say so
    pub lent_says : (x : Result Response Refusal) (t : List ℕ) → (((lent_on b s c).0 ≡ x) × ((lent_on b s c).1 ≡ t)) ↔ LentAnswer b s c x t
    lent_says x t = (
      (λ (p, q). rw (p, q) at lent_answer),
      (λ a. let e = answer_lent a in (ap (λ (m : Result Response Refusal × List ℕ). m.0) e, ap (λ (m : Result Response Refusal × List ℕ). m.1) e)),
    )
