-- From a fresh start "spoilt" is answered exactly at the events after the first one that is not possible since the last restart.
use Prim.Native.Nat.{ℕ, zero, suc, ◌<◌}
use mathlib.Core.Path.{◌≡◌, refl, sym, ap, ◌∙◌}
use mathlib.Core.Logic.Iff
use mathlib.Core.Logic.{◌↔◌, ◌⊎◌, inl, inr, ⊎_elim}
use mathlib.Core.Bool.{Bool, true, false, true≢false}
use mathlib.Core.List.{List, [], ◌∷◌, map}
use native.Mathlib.Omega.{arith}
use lib.Dec.{eqb}
use lib.ListN.{length}
use Rattle.theory.specs.Tests.{some_in}
use Rattle.theory.specs.Systems.{System}
use Rattle.theory.specs.Followers.{StateSet, Some, View, Responds, Follows, Answers}
use Rattle.theory.specs.Followers as followers
use Rattle.theory.specs.Events.{Call, restart, event, taken, not_possible, Answer, answer, spoilt, step_reply, event_rule}
use Rattle.theory.specs.Spoiling.{At, here, later, SpoiltBefore, SpoiltExactly, IsNotPossible, RuleSpoiltExactly}
use Rattle.theory.proofs.Followers.{responds_some}
use Rattle.theory.proofs.Events.{event_never_empties}

-- EACH CALL on a set with a member: whether the state is spoilt before it, the answer, whether it is spoilt after it
data Told : Bool → Call → Answer → Bool → Type 0 where
  restarts : {mark end : Bool} {offered : ℕ} → Told mark restart (answer taken end offered) false
  goes : {a : ℕ} {end : Bool} {offered : ℕ} → Told false (event a) (answer taken end offered) false
  spoils : {a : ℕ} {end : Bool} {offered : ℕ} → Told false (event a) (answer not_possible end offered) true
  stays : {a : ℕ} → Told true (event a) spoilt true

data EachTold : Bool → List Call → List Answer → Bool → Type 0 where
  none : {k : Bool} → EachTold k [] [] k
  call : {k l m : Bool} {c : Call} {x : Answer} {cs : List Call} {xs : List Answer}
      → Told k c x l → EachTold l cs xs m → EachTold k (c ∷ cs) (x ∷ xs) m

-- which the rule does
step_told : (k c : Bool) (a : ℕ) (w : View) → let r = step_reply k c a in Told k (event a) (r.answer w) (r.kept w)
step_told true c a w = stays
step_told false true a w = goes
step_told false false a w = spoils

module _ {M : System} where
  responds_told : {P Q : StateSet M} {k l : Bool} {c : Call} {x : Answer} → Some M P → Responds event_rule M P k c x Q l → Told k c x l
  responds_told {c = restart} p r = rw (r.answer, r.kept) restarts
  responds_told {k = k} {c = event a} p r =
      let some = r.shown_before.some.1 p in
      rw (rw some at r.answer, rw some at r.kept) (step_told k (some_in (eqb a) r.before.offered) a r.after)

  follows_told : {P Q : StateSet M} {k l : Bool} {cs : List Call} {xs : List Answer}
      → Some M P → Follows event_rule M P k cs xs Q l → EachTold k cs xs l
  follows_told p followers.none = none
  follows_told p (followers.call r f) = call (responds_told p r) (follows_told (responds_some event_rule M event_never_empties p r) f)

-- PLACES of a list, and of the same list written otherwise
at_here : {A : Type 0} {x y : A} {xs : List A} → x ≡ y → At 0 (x ∷ xs) y
at_here e = rw e here

at_head : {A : Type 0} {x y : A} {xs : List A} → At 0 (x ∷ xs) y → y ≡ x
at_head here = refl

at_tail : {A : Type 0} {i : ℕ} {x y : A} {xs : List A} → At (suc i) (x ∷ xs) y → At i xs y
at_tail (later h) = h

at_map : {A B : Type 0} (f : A → B) {i : ℕ} {x : A} {xs : List A} → At i xs x → At i (map f xs) (f x)
at_map f here = here
at_map f (later h) = later (at_map f h)

at_of_map : {A B : Type 0} (f : A → B) {i : ℕ} {y : B} (xs : List A) → At i (map f xs) y → (x : A) × At i xs x × (y ≡ f x)
at_of_map f [] h = elim h [ ]
at_of_map f (x ∷ xs) here = (x, here, refl)
at_of_map f (x ∷ xs) (later h) = let (z, g, e) = at_of_map f xs h in (z, later g, e)

-- ONE CALL. Which answers are "spoilt", and which spoil
told_spoilt : {k l : Bool} {c : Call} → Told k c spoilt l → (k ≡ true) × ((a : ℕ) × (c ≡ event a))
told_spoilt (stays {a}) = (refl, (a, refl))

spoilt_told : {l : Bool} {a : ℕ} {x : Answer} → Told true (event a) x l → x ≡ spoilt
spoilt_told stays = refl

not_possible_told : {k l end : Bool} {n : ℕ} {c : Call} → Told k c (answer not_possible end n) l → l ≡ true
not_possible_told spoils = refl

-- a state that is spoilt after a call was so before it, or the call spoils it
spoilt_by : {k : Bool} {c : Call} {x : Answer} → Told k c x true → (IsNotPossible x ⊎ (k ≡ true)) × ¬ (c ≡ restart)
spoilt_by (spoils {end = e} {offered = n}) = (inl (e, n, refl), λ q. let z : ◌≡◌ {A = ℕ} 0 1 = cc in omega arith)
spoilt_by stays = (inr refl, λ q. let z : ◌≡◌ {A = ℕ} 0 1 = cc in omega arith)

stays_spoilt : {l : Bool} {c : Call} {x : Answer} → Told true c x l → ¬ (c ≡ restart) → l ≡ true
stays_spoilt restarts n = absurd (n refl)
stays_spoilt stays n = refl

-- THE LIST, from a state that may be spoilt already
abbrev Before : List Call → List Answer → ℕ → Type 0
Before = SpoiltBefore IsNotPossible

-- spoilt from the beginning, and no restart before place i
abbrev Ever : Bool → List Call → ℕ → Type 0
Ever k cs i = (k ≡ true) × ((j : ℕ) → j < i → ¬ At j cs restart)

-- one call more in front
module _ {k l : Bool} {c : Call} {x : Answer} {cs : List Call} {xs : List Answer} (t : Told k c x l) (i : ℕ) where
  back : Before cs xs i ⊎ Ever l cs i → Before (c ∷ cs) (x ∷ xs) (suc i) ⊎ Ever k (c ∷ cs) (suc i)
  back (inl b) = inl (record {
    place = suc b.place;
    sooner = omega (arith, b.sooner);
    said = b.said;
    at_place = later b.at_place;
    not_possible = b.not_possible;
    no_restart = none_between;
  })
    where
      none_between : (j : ℕ) → suc b.place < j → j < suc i → ¬ At j (c ∷ cs) restart
      none_between zero g h a = omega (arith, g)
      none_between (suc j) g h a = b.no_restart j (omega (arith, g)) (omega (arith, h)) (at_tail a)
  back (inr (e, n)) = let (b, r) = spoilt_by (rw e at t) in
      ⊎_elim (λ (m : IsNotPossible x). inl (record {
        place = 0;
        sooner = omega arith;
        said = x;
        at_place = here;
        not_possible = m;
        no_restart = λ j g. after j g;
      }))
      (λ z. inr (z, before r)) b
    where
      after : (j : ℕ) → 0 < j → j < suc i → ¬ At j (c ∷ cs) restart
      after zero g h a = omega (arith, g)
      after (suc j) g h a = n j (omega (arith, h)) (at_tail a)

      before : ¬ (c ≡ restart) → (j : ℕ) → j < suc i → ¬ At j (c ∷ cs) restart
      before r zero h a = r (sym (at_head a))
      before r (suc j) h a = n j (omega (arith, h)) (at_tail a)

  forth : Before (c ∷ cs) (x ∷ xs) (suc i) ⊎ Ever k (c ∷ cs) (suc i) → Before cs xs i ⊎ Ever l cs i
  forth (inl b) = cases b.place b.sooner b.at_place b.no_restart
    where
      cases : (p : ℕ) → p < suc i → At p (x ∷ xs) b.said → ((j : ℕ) → p < j → j < suc i → ¬ At j (c ∷ cs) restart)
          → Before cs xs i ⊎ Ever l cs i
      cases zero g a n =
          let (end, m, e) = b.not_possible in
          inr (not_possible_told (rw (sym (at_head a) ∙ e) at t), λ j h r. n (suc j) (omega arith) (omega (arith, h)) (later r))
      cases (suc p) g a n = inl (record {
        place = p;
        sooner = omega (arith, g);
        said = b.said;
        at_place = at_tail a;
        not_possible = b.not_possible;
        no_restart = λ j h u r. n (suc j) (omega (arith, h)) (omega (arith, u)) (later r);
      })
  forth (inr (e, n)) =
      inr (stays_spoilt (rw e at t) (λ r. n 0 (omega arith) (at_here r)), λ j h a. n (suc j) (omega (arith, h)) (later a))

-- the call in front
at_front : {k l : Bool} {c : Call} {x y : Answer} {cs : List Call} {xs : List Answer} → Told k c x l → At 0 (x ∷ xs) y
    → (y ≡ spoilt) ↔ (((a : ℕ) × At 0 (c ∷ cs) (event a)) × (Before (c ∷ cs) (x ∷ xs) 0 ⊎ Ever k (c ∷ cs) 0))
at_front {k} {c = c} {x} {y} {cs} {xs} t h = (to, from)
  where
    to : y ≡ spoilt → ((a : ℕ) × At 0 (c ∷ cs) (event a)) × (Before (c ∷ cs) (x ∷ xs) 0 ⊎ Ever k (c ∷ cs) 0)
    to e =
        let (z, (a, q)) = told_spoilt (rw (sym (at_head h) ∙ e) at t) in
        ((a, at_here q), inr (z, λ j g r. omega (arith, g)))

    from : ((a : ℕ) × At 0 (c ∷ cs) (event a)) × (Before (c ∷ cs) (x ∷ xs) 0 ⊎ Ever k (c ∷ cs) 0) → y ≡ spoilt
    from ((a, e), inl b) = absurd (omega (arith, b.sooner))
    from ((a, e), inr (z, n)) = at_head h ∙ spoilt_told (rw (z, ← at_head e) at t)

each_told : {k m : Bool} {cs : List Call} {xs : List Answer} → EachTold k cs xs m → (i : ℕ) (x : Answer) → At i xs x
    → (x ≡ spoilt) ↔ (((a : ℕ) × At i cs (event a)) × (Before cs xs i ⊎ Ever k cs i))
each_told none i x h = elim h [ ]
each_told (call t f) zero x h = at_front t h
each_told (call t f) (suc i) x (later h) =
    let r = each_told f i x h in (
      (λ e. let ((a, g), b) = r.0 e in ((a, later g), back t i b)),
      (λ ((a, g), b). r.1 ((a, at_tail g), forth t i b)),
    )

told_long : {k m : Bool} {cs : List Call} {xs : List Answer} → EachTold k cs xs m → length xs ≡ length cs
told_long none = refl
told_long (call t f) = ap suc (told_long f)

-- FROM A STATE THAT IS NOT SPOILT
told_exactly : {m : Bool} {cs : List Call} {xs : List Answer} → EachTold false cs xs m → RuleSpoiltExactly cs xs
told_exactly {cs = cs} {xs = xs} f = record {
  long = told_long f;
  each = λ i x h. let r = each_told f i x h in (
    (λ e. let (a, b) = r.0 e in (a, ⊎_elim (λ b. b) (λ (z, n). absurd (true≢false (sym z))) b)),
    (λ (a, b). r.1 (a, inl b)),
  );
}

-- so from a fresh start
pub answers_exactly : {M : System} {l : Bool} {cs : List Call} {xs : List Answer} → Answers event_rule M false cs xs l
    → RuleSpoiltExactly cs xs
answers_exactly {M} f = told_exactly (follows_told (M.start, refl) f.follows)

-- THE SAME OF ANSWERS WRITTEN OTHERWISE, where the written ones say as much
module _ {A B : Type 0} {S N : A → Type 0} {S' N' : B → Type 0} (f : A → B)
    (spoilt_same : (x : A) → S x ↔ S' (f x)) (not_possible_same : (x : A) → N x ↔ N' (f x)) where
  pub exactly_written : {cs : List Call} (xs : List A) → SpoiltExactly S N cs xs → SpoiltExactly S' N' cs (map f xs)
  exactly_written {cs} xs E = record {
    long = length_map_of f xs ∙ E.long;
    each = λ i y h. let (x, g, e) = at_of_map f xs h in rw e (Iff.trans (Iff.symm (spoilt_same x)) (Iff.trans (E.each i x g) (
      (λ (a, b). (a, to b)),
      (λ (a, b). (a, from b)),
    )));
  }
    where
      length_map_of : (f : A → B) (xs : List A) → length (map f xs) ≡ length xs
      length_map_of f [] = refl
      length_map_of f (x ∷ xs) = ap suc (length_map_of f xs)

      to : {i : ℕ} → SpoiltBefore N cs xs i → SpoiltBefore N' cs (map f xs) i
      to b = record {
        place = b.place;
        sooner = b.sooner;
        said = f b.said;
        at_place = at_map f b.at_place;
        not_possible = (not_possible_same b.said).0 b.not_possible;
        no_restart = b.no_restart;
      }

      from : {i : ℕ} → SpoiltBefore N' cs (map f xs) i → SpoiltBefore N cs xs i
      from b = let (x, g, e) = at_of_map f xs b.at_place in record {
        place = b.place;
        sooner = b.sooner;
        said = x;
        at_place = g;
        not_possible = (not_possible_same x).1 (rw e at b.not_possible);
        no_restart = b.no_restart;
      }
