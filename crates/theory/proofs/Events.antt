-- The rule does what documents 01 and 02 say of restarts and events, and from a fresh start refuses none.
use Prim.Native.Nat.{ℕ}
use mathlib.Core.Path.{◌≡◌, refl}
use mathlib.Core.Logic.{◌≢◌}
use mathlib.Core.Bool.{Bool, true, false, cond}
use mathlib.Core.List.{List, Memᴰ}
use native.Mathlib.Omega.{arith}
use lib.Dec.{eqb}
use Rattle.theory.specs.Systems.{System}
use Rattle.theory.specs.Tests.{Decides, some_in}
use Rattle.theory.specs.Followers.{StateSet, SameMembers, Fresh, Some, Next, Offered, View, Shows, Effect, keep, fresh, go, Becomes, Responds, Answers, LeavesSome, keeps, starts, goes, NeverEmpties}
use Rattle.theory.specs.Events.{Call, restart, event, Word, taken, not_possible, Answer, spoilt, refused_53, told, reply, step_reply, reply_to, event_rule}
use Rattle.theory.proofs.Tests.{decides_same, decides_listed, is_false}
use Rattle.theory.proofs.Followers.{answers_some}

-- THE DOCUMENTS' SENTENCES, of a call on the members P, which show v, that leaves the members Q, which show w
module _ {M : System} {P Q : StateSet M} {v w : View} (s : Shows M P v) (t : Shows M Q w) where
  by_reply : {k : Bool} {c : Call} (e : Effect) (x : View → Answer) (l : Bool) → reply_to k c v ≡ reply e x l
      → SameMembers M Q (Becomes M P e) → Responds event_rule M P k c (x w) Q l
  by_reply e x l q m = record {
    before = v;
    after = w;
    shown_before = s;
    shown_after = t;
    members = rw q m;
    answer = rw q refl;
    kept = rw q refl;
  }

  offers : (a : ℕ) → Decides (some_in (eqb a) v.offered) (Offered M P a)
  offers a = decides_same (s.offered a) (decides_listed a v.offered)

  -- "Restart gives the start alone and answers taken"; it takes the mark away
  pub restart_taken : {k : Bool} → SameMembers M Q (Fresh M) → Responds event_rule M P k restart (told taken w) Q false
  restart_taken = by_reply fresh (told taken) false refl

  -- "An event with a target from some member: answer taken, the set becomes all such targets"
  pub event_taken : (a : ℕ) → Offered M P a → SameMembers M Q (Next M P a)
      → Responds event_rule M P false (event a) (told taken w) Q false
  event_taken a o = by_reply (go a) (told taken) false (rw (s.some.1 (o.1.0, o.1.1), (offers a).1 o) refl)

  -- "Otherwise not possible, set unchanged"; "after not possible the state is spoilt"
  pub event_not_possible : (a : ℕ) → Some M P → ¬ Offered M P a → SameMembers M Q P
      → Responds event_rule M P false (event a) (told not_possible w) Q true
  event_not_possible a p n = by_reply keep (told not_possible) true (rw (s.some.1 p, is_false (offers a) n) refl)

  -- "and until a restart every event answers spoilt", the set unchanged
  pub event_spoilt : (a : ℕ) → Some M P → SameMembers M Q P → Responds event_rule M P true (event a) spoilt Q true
  event_spoilt a p = by_reply keep (λ w. spoilt) true (rw (s.some.1 p) refl)

  -- 53 for an empty set, which is left as it is, and so is the mark
  pub event_refused : {k : Bool} (a : ℕ) → ¬ Some M P → SameMembers M Q P → Responds event_rule M P k (event a) refused_53 Q k
  event_refused {k} a n = by_reply keep (λ w. refused_53) k (rw (is_false s.some n) refl)

-- THE RULE EMPTIES NO SET
pub event_never_empties : NeverEmpties event_rule
event_never_empties k restart v = starts
event_never_empties k (event a) v = cases v.some k (some_in (eqb a) v.offered) refl
  where
    cases : (b k c : Bool) → some_in (eqb a) v.offered ≡ c
        → LeavesSome v (cond b (step_reply k c a) (reply keep (λ w. refused_53) k)).effect
    cases true true c e = keeps
    cases true false true e = goes ((decides_listed a v.offered).0 e)
    cases true false false e = keeps
    cases false k c e = keeps

-- so that no call is refused 53 from a fresh start
told_not_refused : (x : Word) (w : View) → told x w ≢ refused_53
told_not_refused x w e = let z : ◌≡◌ {A = ℕ} 0 1 = cc in omega arith

spoilt_not_refused : spoilt ≢ refused_53
spoilt_not_refused e = let z : ◌≡◌ {A = ℕ} 0 1 = cc in omega arith

not_refused : (k : Bool) (c : Call) (v w : View) → v.some ≡ true → (reply_to k c v).answer w ≢ refused_53
not_refused k restart v w h = told_not_refused taken w
not_refused k (event a) v w h = rw h (cases k (some_in (eqb a) v.offered))
  where
    cases : (k c : Bool) → (step_reply k c a).answer w ≢ refused_53
    cases true c = spoilt_not_refused
    cases false true = told_not_refused taken w
    cases false false = told_not_refused not_possible w

pub never_refused : {M : System} {k l : Bool} {cs : List Call} {xs : List Answer} → Answers event_rule M k cs xs l
    → (x : Answer) → Memᴰ x xs → x ≢ refused_53
never_refused {M} f =
    answers_some event_rule M event_never_empties (λ x. x ≢ refused_53) not_refused (M.start, refl) f.follows
