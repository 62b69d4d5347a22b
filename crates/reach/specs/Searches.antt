-- Reachability along sets of successors: set x of a table has what x leads to.
use Rattle.std.specs.Prelude.{ℕ, ◌≤◌, ◌<◌, ◌≡◌, ◌≢◌, ◌⊎◌, ◌↔◌, Bool, true, List, length, replicate}
use Rattle.std.specs.Prelude.{Option, IfSome, IsSome, IsNone, unwrap_or}
use Rattle.theory.specs.Paths.{Edges, Star, Plus, Avoid}
use Rattle.bits.specs.First.{First}
use Rattle.bits.specs.declared.sets.Set.{Set}
use Rattle.bits.specs.Sets.{Has}
use Rattle.bits.specs.Tables.{row_of, HasRow}
use Rattle.reach.specs.declared.Search.{Search}

-- y is in set x of the table
pub record Leads (a : List ℕ) (x y : ℕ) : Type 0 where
  pub from : x < 128
  pub has : HasRow a x y

-- y is in set x of the table, for a member x of the set
abbrev pub LedTo : List ℕ → Set → ℕ → Type 0
LedTo a s y = (x : ℕ) × Has s x × HasRow a x y

-- a path leads from a member of the set to w
abbrev pub FromSet : Edges → Set → ℕ → Type 0
FromSet E s w = (u : ℕ) × Has s u × Star E u w

-- with each of its vertices the set has those that E leads to from there
abbrev pub Closed : Edges → Set → Type 0
Closed E s = (x y : ℕ) → Has s x → E x y → Has s y

-- or those are in another set
abbrev pub ClosedBut : Edges → Set → Set → Type 0
ClosedBut E s other = (x y : ℕ) → Has s x → E x y → Has s y ⊎ Has other y

-- w is in a set, or a path leads to it from a member of another
abbrev pub InOrFrom : Edges → Set → Set → ℕ → Type 0
InOrFrom E closed s w = Has closed w ⊎ FromSet E s w

-- for each x from `from` up to `to`, set x of after has what x reaches by one step or more
pub record Known (a after : List ℕ) (from to : ℕ) : Type 0 where
  pub exactly : (x y : ℕ) → from ≤ x → x < to → x < 128 → HasRow after x y ↔ Plus (Leads a) x y

-- w is not stop, all that w reaches is known, and stop is not among it
pub record Jumps (after : List ℕ) (from to stop w : ℕ) : Type 0 where
  pub above : from ≤ w
  pub below : w < to
  pub apart : w ≢ stop
  pub never : ¬ HasRow after w stop

-- after the turn of w, which was past: what w leads to is seen, and so is what the vertices lead to that have come to
-- be past
pub record Visited (a : List ℕ) (stop w : ℕ) (s r : Search) : Type 0 where
  pub grows : (y : ℕ) → Has s.seen y → Has r.seen y
  pub sound : (y : ℕ) → Has r.seen y → Has s.seen y ⊎ Star (Avoid stop (Leads a)) w y
  pub passed : (x y : ℕ) → Has r.past x → Avoid stop (Leads a) x y → (Has s.past x × (x ≢ w)) ⊎ Has r.seen y
  pub more : (y : ℕ) → Has s.past y → Has r.past y

-- x reaches itself
abbrev pub OnCycle : List ℕ → ℕ → Type 0
OnCycle a x = Plus (Leads a) x x

-- set x of after has what x reaches by one step or more, for each member x of the set
pub record ReachedIn (a after : List ℕ) (s : Set) : Type 0 where
  pub exactly : (x y : ℕ) → Has s x → HasRow after x y ↔ Plus (Leads a) x y

-- and the members are on no cycle and lead to members alone
pub record Settled (a after : List ℕ) (s : Set) : Type 0 where
  pub known : ReachedIn a after s
  pub closed : Closed (Leads a) s
  pub acyclic : (x : ℕ) → Has s x → ¬ OnCycle a x

-- r has the set, and perhaps some with P, which are settled now; the sets of others stay
pub record Settles (a : List ℕ) (P : ℕ → Type 0) (before : List ℕ) (s : Set) (after : List ℕ) (r : Set) : Type 0 where
  pub long : length after ≡ length before
  pub settled : Settled a after r
  pub more : (x : ℕ) → Has s x → Has r x
  pub within : (x : ℕ) → Has r x → Has s x ⊎ P x
  pub others : (x : ℕ) → ¬ P x → row_of after x ≡ row_of before x

-- if the set has w, w is on a cycle; if not, it has what w reaches by one step or more
pub record TurnReaches (a : List ℕ) (w : ℕ) (r : Set) : Type 0 where
  pub cyclic : Has r w → OnCycle a w
  pub exactly : ¬ Has r w → (y : ℕ) → Has r y ↔ Plus (Leads a) w y

-- r says whether no vertex below n is on a cycle; then set x of after has what x reaches, for each x of them; the sets
-- from n on stay
pub record Searched (a : List ℕ) (n : ℕ) (before : List ℕ) (r : Bool) (after : List ℕ) : Type 0 where
  pub long : length after ≡ length before
  pub acyclic : (r ≡ true) ↔ ((x : ℕ) → x < n → ¬ OnCycle a x)
  pub known : r ≡ true → Known a after 0 n
  pub others : (x : ℕ) → n ≤ x → row_of after x ≡ row_of before x

-- no vertex below n outside r is on a cycle, and set x of after has what x reaches, for each x of them; the sets from n
-- on stay
pub record SettledBut (a : List ℕ) (n : ℕ) (before : List ℕ) (r : Set) (after : List ℕ) : Type 0 where
  pub long : length after ≡ length before
  pub others : (x : ℕ) → n ≤ x → row_of after x ≡ row_of before x
  pub acyclic : (x : ℕ) → x < n → ¬ Has r x → ¬ OnCycle a x
  pub known : (x y : ℕ) → x < n → ¬ Has r x → HasRow after x y ↔ Plus (Leads a) x y

-- r is the lowest of the first n vertices that is on a cycle, if there is one; what the lent table has where there is
-- none, and where there is one
pub record Cycles (a : List ℕ) (n : ℕ) (before : List ℕ) (r : Option ℕ) (after : List ℕ) : Type 0 where
  pub long : length after ≡ length before
  pub first : First (OnCycle a) 0 n (unwrap_or r n)
  pub below : IfSome r (λ (x : ℕ). x < n)
  pub known : IsNone r → Known a after 0 n
  pub others : IsNone r → (x : ℕ) → n ≤ x → row_of after x ≡ row_of before x
  pub cleared : IsSome r → after ≡ replicate (length before) 0
