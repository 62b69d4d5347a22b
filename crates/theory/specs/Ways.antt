-- The shortest list of actions to the end, over any transition system (document 02, C-11).
use Rattle.std.specs.Prelude.{◌≡◌, ℕ, suc, ◌<◌, length}
use mathlib.Core.List.{List, [], ◌∷◌, Memᴰ}
use Rattle.theory.specs.Least.{Least}
use Rattle.theory.specs.Systems.{System}
use Rattle.theory.specs.Followers.{StateSet, View}
use Rattle.theory.specs.Events.{Answer, taken, told}

-- the first list is lower than the second at the first place where they differ
pub data Lower : List ℕ → List ℕ → Type 0 where
  at_once : {a b : ℕ} {xs ys : List ℕ} → a < b → Lower (a ∷ xs) (b ∷ ys)
  later : {a : ℕ} {xs ys : List ℕ} → Lower xs ys → Lower (a ∷ xs) (a ∷ ys)

-- THE SHORTEST LIST with P, and of those of its length the lowest
pub record Shortest (P : List ℕ → Type 0) (xs : List ℕ) : Type 0 where
  pub holds : P xs
  pub none_shorter : (ys : List ℕ) → length ys < length xs → ¬ P ys
  pub none_lower : (ys : List ℕ) → length ys ≡ length xs → P ys → ¬ Lower ys xs

-- PATHS. One with these actions leads from the state to the end; from a member of the set
pub data Ends (M : System) : M.State → List ℕ → Type 0 where
  done : {x : M.State} → M.End x → Ends M x []
  by : {x y : M.State} {a : ℕ} {xs : List ℕ} → M.Step x a y → Ends M y xs → Ends M x (a ∷ xs)

abbrev pub EndsFrom : (M : System) → StateSet M → List ℕ → Type 0
EndsFrom M P xs = (x : M.State) × P x × Ends M x xs

-- one of n steps leads from the state to the end
abbrev pub EndsIn : (M : System) → ℕ → M.State → Type 0
EndsIn M n x = (xs : List ℕ) × (length xs ≡ n) × Ends M x xs

-- one of n steps leads from a member of the set to the state; and none of fewer does
pub data ReachedIn (M : System) (P : StateSet M) : ℕ → M.State → Type 0 where
  member : {x : M.State} → P x → ReachedIn M P 0 x
  onward : {x y : M.State} {a n : ℕ} → ReachedIn M P n x → M.Step x a y → ReachedIn M P (suc n) y

abbrev pub FirstIn : (M : System) → StateSet M → ℕ → M.State → Type 0
FirstIn M P n x = Least (λ k. ReachedIn M P k x) n

-- the lowest list of n actions of a path from a member to the end
pub record LowestOf (M : System) (n : ℕ) (P : StateSet M) (xs : List ℕ) : Type 0 where
  pub long : length xs ≡ n
  pub ends : EndsFrom M P xs
  pub none_lower : (ys : List ℕ) → length ys ≡ n → EndsFrom M P ys → ¬ Lower ys xs

-- each answer to a list of events is "taken"
abbrev pub AllTaken : List Answer → Type 0
AllTaken rs = (x : Answer) → Memᴰ x rs → (w : View) × (x ≡ told taken w)
