-- Followers over bisimilar systems, by any rule, give the same answers to every list of calls; and where their members are.
use Prim.Native.Nat.{ℕ, ◌<◌}
use mathlib.Core.Path.{◌≡◌, refl, ap₂, sym, ◌∙◌}
use mathlib.Core.Logic.Iff
use mathlib.Core.Logic.{◌↔◌, ⊎_elim}
use mathlib.Core.Bool.{Bool, true, false}
use mathlib.Core.List.Memᴰ
use mathlib.Core.List.{List, ◌∷◌, Memᴰ}
use lib.Dec.{ltb}
use Rattle.theory.specs.Systems.{System, Bisimulation, Lift}
use Rattle.theory.specs.Transitions.{Transition, chart}
use Rattle.theory.specs.Followers.{StateSet, SameMembers, Fresh, Some, HoldsEnd, Next, Offered, View, Shows, Effect, keep, fresh, empty, go, Becomes, FollowerRule, Responds, Follows, none, call, Answers, LeavesSome, keeps, starts, goes, NeverEmpties, Closed}
use Rattle.theory.proofs.Ascending.{one_list, ltb_order}
use Rattle.theory.proofs.Systems.{identity, lift_equal, equal_lift, lift_same, lift_some}

-- WHAT A SET SHOWS is determined
same_bool : (b c : Bool) → (b ≡ true) ↔ (c ≡ true) → b ≡ c
same_bool true c e = sym (e.0 refl)
same_bool false true e = e.1 refl
same_bool false false e = refl

pub one_view : (M : System) {P : StateSet M} {v w : View} → Shows M P v → Shows M P w → v ≡ w
one_view M {v} {w} s t = λ i. record { some = some i; end = end i; offered = offered i }
  where
    some : v.some ≡ w.some
    some = same_bool _ _ (Iff.trans s.some (Iff.symm t.some))

    end : v.end ≡ w.end
    end = same_bool _ _ (Iff.trans s.end (Iff.symm t.end))

    offered : v.offered ≡ w.offered
    offered =
        one_list ltb ltb_order v.offered w.offered s.ascending t.ascending
        (λ a h. (t.offered a).1 ((s.offered a).0 h))
        (λ a h. (s.offered a).1 ((t.offered a).0 h))

module _ {M N : System} {R : M.State → N.State → Type 0} (b : Bisimulation M N R) where
  pub lift_fresh : Lift R (Fresh M) (Fresh N)
  lift_fresh = (λ x e. (N.start, refl, rw e b.starts), λ y e. (M.start, refl, rw e b.starts))

  module _ {P : StateSet M} {Q : StateSet N} (l : Lift R P Q) where
    lift_next : (a : ℕ) → Lift R (Next M P a) (Next N Q a)
    lift_next a = (
      λ x h. let q = l.0 h.0 h.1 in let r = b.forth h.0 q.0 q.2 a x h.2 in (r.0, (q.0, q.1, r.1), r.2),
      λ y h. let p = l.1 h.0 h.1 in let r = b.back p.0 h.0 p.2 a y h.2 in (r.0, (p.0, p.1, r.1), r.2),
    )

    lift_offered : (a : ℕ) → Offered M P a ↔ Offered N Q a
    lift_offered a = lift_some (lift_next a)

    lift_ends : HoldsEnd M P ↔ HoldsEnd N Q
    lift_ends = (
      λ h. let q = l.0 h.0 h.1 in (q.0, q.1, (b.ends h.0 q.0 q.2).0 h.2),
      λ h. let p = l.1 h.0 h.1 in (p.0, p.1, (b.ends p.0 h.0 p.2).1 h.2),
    )

    -- SETS MATCHED BOTH WAYS show the same
    pub shows_carried : {v : View} → Shows M P v → Shows N Q v
    shows_carried s = record {
      some = Iff.trans s.some (lift_some l);
      end = Iff.trans s.end lift_ends;
      ascending = s.ascending;
      offered = λ a. Iff.trans (s.offered a) (lift_offered a);
    }

    -- and stay matched under every effect
    pub lift_effect : (e : Effect) → Lift R (Becomes M P e) (Becomes N Q e)
    lift_effect keep = l
    lift_effect fresh = lift_fresh
    lift_effect empty = (λ x h. absurd h, λ y h. absurd h)
    lift_effect (go a) = lift_next a

  module _ (rule : FollowerRule) where
    -- ONE CALL: equal answers, equal parts kept, and matched members again
    pub responds_agree : {P P' : StateSet M} {Q Q' : StateSet N} {k k' l' : rule.Kept} {c : rule.Call} {x y : rule.Answer}
        → Lift R P Q → Responds rule M P k c x P' k' → Responds rule N Q k c y Q' l' → (x ≡ y) × (k' ≡ l') × Lift R P' Q'
    responds_agree {k} {c} l r s =
        let e : r.before ≡ s.before = one_view N (shows_carried l r.shown_before) s.shown_before in
        let m = lift_same (lift_effect l (rule.response k c r.before).effect) r.members (rw (← e) at s.members) in
        let g : r.after ≡ s.after = one_view N (shows_carried m r.shown_after) s.shown_after in (
          r.answer ∙ ap₂ (λ v w. (rule.response k c v).answer w) e g ∙ sym s.answer,
          r.kept ∙ ap₂ (λ v w. (rule.response k c v).kept w) e g ∙ sym s.kept,
          m,
        )

    -- THE THEOREM, by every rule, for every list of calls
    pub followers_agree : {P P' : StateSet M} {Q Q' : StateSet N} {k k' l' : rule.Kept}
        {cs : List rule.Call} {xs ys : List rule.Answer}
        → Lift R P Q → Follows rule M P k cs xs P' k' → Follows rule N Q k cs ys Q' l'
        → (xs ≡ ys) × (k' ≡ l') × Lift R P' Q'
    followers_agree l none none = (refl, refl, l)
    followers_agree l (call r f) (call s g) =
        let (x, k, m) = responds_agree l r s in
        let (xs, k', m') = followers_agree m f (rw (← k) at g) in
        (ap₂ ◌∷◌ x xs, k', m')

    -- from a fresh start
    pub fresh_agree : {k l m : rule.Kept} {cs : List rule.Call} {xs ys : List rule.Answer}
        → Answers rule M k cs xs l → Answers rule N k cs ys m → (xs ≡ ys) × (l ≡ m)
    fresh_agree f g = let (e, k, m) = followers_agree lift_fresh f.follows g.follows in (e, k)

    -- ANSWERS ARE CARRIED OVER: where the one follower has them, so has the other
    pub responds_carried : {P P' : StateSet M} {Q : StateSet N} {k l : rule.Kept} {c : rule.Call} {x : rule.Answer}
        → Lift R P Q → Responds rule M P k c x P' l → (Q' : StateSet N) × Responds rule N Q k c x Q' l × Lift R P' Q'
    responds_carried {Q} {k} {c} m r =
        let e = (rule.response k c r.before).effect in
        let m' = lift_same (lift_effect m e) r.members (λ y. Iff.rfl) in (
          Becomes N Q e,
          record {
            before = r.before;
            after = r.after;
            shown_before = shows_carried m r.shown_before;
            shown_after = shows_carried m' r.shown_after;
            members = λ y. Iff.rfl;
            answer = r.answer;
            kept = r.kept;
          },
          m',
        )

    pub follows_carried : {P P' : StateSet M} {Q : StateSet N} {k l : rule.Kept}
        {cs : List rule.Call} {xs : List rule.Answer}
        → Lift R P Q → Follows rule M P k cs xs P' l → (Q' : StateSet N) × Follows rule N Q k cs xs Q' l × Lift R P' Q'
    follows_carried {Q} m none = (Q, none, m)
    follows_carried m (call r f) =
        let (Q', s, m') = responds_carried m r in
        let (Q'', g, m'') = follows_carried m' f in
        (Q'', call s g, m'')

    pub fresh_carried : {k l : rule.Kept} {cs : List rule.Call} {xs : List rule.Answer}
        → Answers rule M k cs xs l → Answers rule N k cs xs l
    fresh_carried f =
        let (Q, g, m) = follows_carried lift_fresh f.follows in
        record { members = Q; follows = g }

module _ (rule : FollowerRule) (M : System) where
  -- ANSWERS ARE DETERMINED, and the members count only by which states they are
  pub follows_one : {P P' Q Q' : StateSet M} {k k' l' : rule.Kept} {cs : List rule.Call} {xs ys : List rule.Answer}
      → SameMembers M P Q → Follows rule M P k cs xs P' k' → Follows rule M Q k cs ys Q' l'
      → (xs ≡ ys) × (k' ≡ l') × SameMembers M P' Q'
  follows_one s f g = let (e, k, m) = followers_agree (identity M) rule (lift_equal s) f g in (e, k, equal_lift m)

  -- what is left may be said by any set with its members
  pub responds_same : {P Q Z : StateSet M} {k l : rule.Kept} {c : rule.Call} {x : rule.Answer}
      → SameMembers M Q Z → Responds rule M P k c x Q l → Responds rule M P k c x Z l
  responds_same e r = record {
    before = r.before;
    after = r.after;
    shown_before = r.shown_before;
    shown_after = shows_carried (identity M) (lift_equal e) r.shown_after;
    members = λ y. Iff.trans (Iff.symm (e y)) (r.members y);
    answer = r.answer;
    kept = r.kept;
  }

  pub one_answers : {k l m : rule.Kept} {cs : List rule.Call} {xs ys : List rule.Answer}
      → Answers rule M k cs xs l → Answers rule M k cs ys m → (xs ≡ ys) × (l ≡ m)
  one_answers = fresh_agree (identity M) rule

  -- whatever has the start alone is a fresh start
  pub from_fresh : {P Q : StateSet M} {k l : rule.Kept} {cs : List rule.Call} {xs : List rule.Answer}
      → SameMembers M P (Fresh M) → Follows rule M P k cs xs Q l → Answers rule M k cs xs l
  from_fresh s f =
      let (Q, g, m) = follows_carried (identity M) rule (lift_equal s) f in
      record { members = Q; follows = g }

  -- WHERE MEMBERS ARE: no call leads out of a set that has the start and that no step leaves
  module _ {C : StateSet M} (closed : Closed M C) where
    becomes_within : {P : StateSet M} → ((y : M.State) → P y → C y) → (e : Effect) (y : M.State) → Becomes M P e y → C y
    becomes_within p keep y h = p y h
    becomes_within p fresh y h = rw h closed.start
    becomes_within p empty y h = absurd h
    becomes_within p (go a) y h = closed.step h.0 a y (p h.0 h.1) h.2

    pub responds_within : {P Q : StateSet M} {k l : rule.Kept} {c : rule.Call} {x : rule.Answer}
        → ((y : M.State) → P y → C y) → Responds rule M P k c x Q l → (y : M.State) → Q y → C y
    responds_within {k} {c} p r y q = becomes_within p (rule.response k c r.before).effect y ((r.members y).0 q)

    pub follows_within : {P Q : StateSet M} {k l : rule.Kept} {cs : List rule.Call} {xs : List rule.Answer}
        → ((y : M.State) → P y → C y) → Follows rule M P k cs xs Q l → (y : M.State) → Q y → C y
    follows_within p none = p
    follows_within p (call r f) = follows_within (responds_within p r) f

  -- THERE IS A MEMBER, by a rule that empties no set
  module _ (never : NeverEmpties rule) where
    becomes_some : {P : StateSet M} {v : View} {e : Effect} → Shows M P v → Some M P → LeavesSome v e → Some M (Becomes M P e)
    becomes_some s p keeps = p
    becomes_some s p starts = (M.start, refl)
    becomes_some s p (goes {a} o) = (s.offered a).0 o

    pub responds_some : {P Q : StateSet M} {k l : rule.Kept} {c : rule.Call} {x : rule.Answer}
        → Some M P → Responds rule M P k c x Q l → Some M Q
    responds_some {k} {c} p r =
        let (y, h) = becomes_some r.shown_before p (never k c r.before) in
        (y, (r.members y).1 h)

    pub follows_some : {P Q : StateSet M} {k l : rule.Kept} {cs : List rule.Call} {xs : List rule.Answer}
        → Some M P → Follows rule M P k cs xs Q l → Some M Q
    follows_some p none = p
    follows_some p (call r f) = follows_some (responds_some p r) f

    -- so each answer is one to a set that shows a member
    pub answers_some : (G : rule.Answer → Type 0)
        → ((k : rule.Kept) (c : rule.Call) (v w : View) → v.some ≡ true → G ((rule.response k c v).answer w))
        → {P Q : StateSet M} {k l : rule.Kept} {cs : List rule.Call} {xs : List rule.Answer}
        → Some M P → Follows rule M P k cs xs Q l → (x : rule.Answer) → Memᴰ x xs → G x
    answers_some G g p none x h = absurd (Memᴰ.not-nil h)
    answers_some G g p (call {k} {c} {x = y} r f) x h =
        ⊎_elim (λ (e : x ≡ y). rw (e, r.answer) (g k c r.before r.after (r.shown_before.some.1 p)))
        (λ i. answers_some G g (responds_some p r) f x i) (Memᴰ.cases_cons h)

-- OVER A CHART with its start and all targets below V
module _ {size start : ℕ} {ts : List Transition} (low : start < size) (targets : (u a w : ℕ) → Memᴰ (u, a, w) ts → w < size) where
  pub chart_closed : Closed (chart start ts) (λ v. v < size)
  chart_closed = record { start = low; step = λ u a w h s. targets u a w s }

  -- after every list of calls from a fresh start the members are below V, and there is one
  pub chart_members : (rule : FollowerRule) → NeverEmpties rule
      → {Q : StateSet (chart start ts)} {k l : rule.Kept} {cs : List rule.Call} {xs : List rule.Answer}
      → Follows rule (chart start ts) (Fresh (chart start ts)) k cs xs Q l
      → ((v : ℕ) → Q v → v < size) × Some (chart start ts) Q
  chart_members rule never f = (
    follows_within rule (chart start ts) chart_closed (λ v e. rw e low) f,
    follows_some rule (chart start ts) never (start, refl) f,
  )
