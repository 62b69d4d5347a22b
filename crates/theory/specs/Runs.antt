-- Followers that run: a function for one call, run over a list of calls; and any rule over a system whose steps are
-- listed, with a list of states for the members.
use Rattle.std.specs.Prelude.{◌≡◌, Bool, true, false, cond, ℕ, eqb, ltb}
use mathlib.Core.List.{List, [], ◌∷◌, map, flat_map, Memᴰ}
use Rattle.theory.specs.Ascending.{sort}
use Rattle.theory.specs.Systems.{System}
use Rattle.theory.specs.Tests.{some_in}
use Rattle.theory.specs.Transitions.{Transition}
use Rattle.theory.specs.Expressions.{Expr, Target, end, to}
use Rattle.theory.specs.Derivatives.{derivatives}
use Rattle.theory.specs.Followers.{StateSet, View, Effect, keep, fresh, empty, go, FollowerRule}

-- A LIST OF CALLS to a function from a state and a call to an answer and a state, each call on the state that the one
-- before left: the answers, and the state after the list
abbrev pub run : {S C A : Type 0} → (S → C → A × S) → List C → S → List A
run f [] s = []
run f (c ∷ cs) s = (f s c).0 ∷ run f cs (f s c).1

abbrev pub run_leaves : {S C A : Type 0} → (S → C → A × S) → List C → S → S
run_leaves f [] s = s
run_leaves f (c ∷ cs) s = run_leaves f cs (f s c).1

-- MACHINES: systems whose steps are listed
pub record Machine : Type 1 where
  pub State : Type 0
  pub start : State
  pub is_end : State → Bool
  pub moves : State → List (ℕ × State)

abbrev pub system : Machine → System
system M = record {
  State = M.State;
  start = M.start;
  End = λ x. M.is_end x ≡ true;
  Step = λ x a y. Memᴰ (a, y) (M.moves x);
}

-- the members that a list has
abbrev pub MembersOf : (M : Machine) → List M.State → StateSet (system M)
MembersOf M xs x = Memᴰ x xs

-- their moves, as they come
abbrev pub moves_of : (M : Machine) → List M.State → List (ℕ × M.State)
moves_of M xs = flat_map M.moves xs

abbrev pub nonempty : {A : Type 0} → List A → Bool
nonempty [] = false
nonempty (x ∷ xs) = true

-- what they show
abbrev pub view_of : (M : Machine) → List M.State → View
view_of M xs = record {
  some = nonempty xs;
  end = some_in M.is_end xs;
  offered = sort ltb (map (λ m. m.0) (moves_of M xs));
}

-- what stands beside a in a list of pairs
unfoldable pub pick : {A : Type 0} → ℕ → List (ℕ × A) → List A
pick a [] = []
pick a (m ∷ ms) = cond (eqb a m.0) (m.1 ∷ pick a ms) (pick a ms)

-- what an effect leaves
abbrev pub left_by : (M : Machine) → Effect → List M.State → List M.State
left_by M keep xs = xs
left_by M fresh xs = M.start ∷ []
left_by M empty xs = []
left_by M (go a) xs = pick a (moves_of M xs)

-- ANY RULE OVER A MACHINE: one call, on what is kept and a list of states
abbrev pub call_on : (rule : FollowerRule) (M : Machine)
    → rule.Kept × List M.State → rule.Call → rule.Answer × (rule.Kept × List M.State)
call_on rule M s c =
    let r = rule.response s.0 c (view_of M s.1) in
    let ys = left_by M r.effect s.1 in
    let w = view_of M ys in
    (r.answer w, (r.kept w, ys))

-- the answers from a fresh start with k kept, and what is kept after them
abbrev pub run_fresh : (rule : FollowerRule) (M : Machine) → rule.Kept → List rule.Call → List rule.Answer
run_fresh rule M k cs = run (call_on rule M) cs (k, M.start ∷ [])

abbrev pub kept_fresh : (rule : FollowerRule) (M : Machine) → rule.Kept → List rule.Call → rule.Kept
kept_fresh rule M k cs = (run_leaves (call_on rule M) cs (k, M.start ∷ [])).0

-- A CHART given by the list of its transitions, each beside its from
abbrev pub from_and_move : Transition → ℕ × (ℕ × ℕ)
from_and_move t = (t.0, (t.1, t.2))

abbrev pub chart_machine : ℕ → List Transition → Machine
chart_machine start ts = record {
  State = ℕ;
  start = start;
  is_end = λ v. eqb v 0;
  moves = λ u. pick u (map from_and_move ts);
}

-- THE PUBLISHED RULES
abbrev pub target_moves : Target → List (ℕ × Target)
target_moves end = []
target_moves (to e) = derivatives e

abbrev pub is_end_target : Target → Bool
is_end_target end = true
is_end_target (to e) = false

abbrev pub rule_machine : Expr → Machine
rule_machine e = record { State = Target; start = to e; is_end = is_end_target; moves = target_moves }
