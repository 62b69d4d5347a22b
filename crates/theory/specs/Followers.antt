-- Followers over any transition system. A follower's state is a set of the system's states, and what its rule keeps
-- beside the set. The rule knows the set only by what it shows.
use Rattle.std.specs.Prelude.{◌≡◌, ◌↔◌, Bool, ℕ, ltb}
use mathlib.Core.List.{List, [], ◌∷◌, Memᴰ}
use Rattle.theory.specs.Ascending.{Ascending}
use Rattle.theory.specs.Systems.{System}
use Rattle.theory.specs.Tests.{Decides}

-- SETS OF STATES
abbrev pub StateSet : System → Type 1
StateSet M = M.State → Type 0

-- the same members
abbrev pub SameMembers : (M : System) → StateSet M → StateSet M → Type 0
SameMembers M P Q = (x : M.State) → P x ↔ Q x

-- a fresh start: the start alone
abbrev pub Fresh : (M : System) → StateSet M
Fresh M x = x ≡ M.start

-- some member
abbrev pub Some : (M : System) → StateSet M → Type 0
Some M P = (x : M.State) × P x

-- the end is a member
abbrev pub HoldsEnd : (M : System) → StateSet M → Type 0
HoldsEnd M P = (x : M.State) × P x × M.End x

-- the targets of an action from the members
abbrev pub Next : (M : System) → StateSet M → ℕ → StateSet M
Next M P a y = (x : M.State) × P x × M.Step x a y

-- the action has a target from some member
abbrev pub Offered : (M : System) → StateSet M → ℕ → Type 0
Offered M P a = Some M (Next M P a)

-- WHAT A SET SHOWS: whether it has a member, whether the end is one, and the actions offered, ascending
pub record View : Type 0 where
  pub some : Bool
  pub end : Bool
  pub offered : List ℕ

pub record Shows (M : System) (P : StateSet M) (v : View) : Type 0 where
  pub some : Decides v.some (Some M P)
  pub end : Decides v.end (HoldsEnd M P)
  pub ascending : Ascending ltb v.offered
  pub offered : (a : ℕ) → Memᴰ a v.offered ↔ Offered M P a

-- WHAT A CALL DOES to the set: keeps it, starts afresh, empties it, or goes by an action to all its targets
pub data Effect : Type 0 where
  keep fresh empty : Effect
  go : ℕ → Effect

abbrev pub Becomes : (M : System) → StateSet M → Effect → StateSet M
Becomes M P keep x = P x
Becomes M P fresh x = Fresh M x
Becomes M P empty x = ⊥
Becomes M P (go a) x = Next M P a x

-- A RULE: from what is kept, the call, and what the set shows before it, the effect; then from what the set shows after
-- it, the answer and what is kept next
pub record Response (Answer Kept : Type 0) : Type 0 where
  pub effect : Effect
  pub answer : View → Answer
  pub kept : View → Kept

pub record FollowerRule : Type 1 where
  pub Kept : Type 0
  pub Call : Type 0
  pub Answer : Type 0
  pub response : Kept → Call → View → Response Answer Kept

-- one call, on the members P with k kept: the answer x, and after it the members Q with l kept. Q is any set with the
-- members that the effect names, so that bytes can be what is left
pub record Responds (rule : FollowerRule) (M : System) (P : StateSet M) (k : rule.Kept) (c : rule.Call)
    (x : rule.Answer) (Q : StateSet M) (l : rule.Kept) : Type 0 where
  pub before : View
  pub after : View
  pub shown_before : Shows M P before
  pub shown_after : Shows M Q after
  pub members : SameMembers M Q (Becomes M P (rule.response k c before).effect)
  pub answer : x ≡ (rule.response k c before).answer after
  pub kept : l ≡ (rule.response k c before).kept after

-- the answers to a list of calls, each on what the one before left, and what is left after the list
pub data Follows (rule : FollowerRule) (M : System)
    : StateSet M → rule.Kept → List rule.Call → List rule.Answer → StateSet M → rule.Kept → Type 1 where
  none : {P : StateSet M} {k : rule.Kept} → Follows rule M P k [] [] P k
  call : {P Q Z : StateSet M} {k l m : rule.Kept}
      {c : rule.Call} {x : rule.Answer} {cs : List rule.Call} {xs : List rule.Answer}
      → Responds rule M P k c x Q l → Follows rule M Q l cs xs Z m → Follows rule M P k (c ∷ cs) (x ∷ xs) Z m

-- the answers from a fresh start with k kept, after which l is kept, whatever members are left
pub record Answers (rule : FollowerRule) (M : System) (k : rule.Kept)
    (cs : List rule.Call) (xs : List rule.Answer) (l : rule.Kept) : Type 1 where
  pub members : StateSet M
  pub follows : Follows rule M (Fresh M) k cs xs members l

-- RULES THAT EMPTY NO SET: they keep it, start afresh, or go by an action that is offered
pub data LeavesSome (v : View) : Effect → Type 0 where
  keeps : LeavesSome v keep
  starts : LeavesSome v fresh
  goes : {a : ℕ} → Memᴰ a v.offered → LeavesSome v (go a)

abbrev pub NeverEmpties : FollowerRule → Type 0
NeverEmpties rule = (k : rule.Kept) (c : rule.Call) (v : View) → LeavesSome v (rule.response k c v).effect

-- a set that has the start and that no step leaves
pub record Closed (M : System) (C : StateSet M) : Type 0 where
  pub start : C M.start
  pub step : (x : M.State) (a : ℕ) (y : M.State) → C x → M.Step x a y → C y
