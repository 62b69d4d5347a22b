-- Orders in which all loops of a labelled chart are taken out.
use Rattle.std.specs.Prelude.{◌≢◌, ℕ}
use mathlib.Core.List.{List, [], ◌∷◌, Memᴰ}
use Rattle.theory.specs.Paths.{Plus}
use Rattle.theory.specs.Charts.{Steps, Loop}
use Rattle.theory.specs.LoopCharts.{InLoop}
use Rattle.theory.specs.Standing.{Loops}

-- a vertex and a level
abbrev pub Pair : Type 0
Pair = ℕ × ℕ

-- the loops of a list, as a set
abbrev pub Listing : List Pair → Loops
Listing xs v l = Memᴰ (v, l) xs

-- no member stands twice
pub data Distinct : List Pair → Type 0 where
  none : Distinct []
  one : {x : Pair} {xs : List Pair} → ¬ Memᴰ x xs → Distinct xs → Distinct (x ∷ xs)

-- x stands before y
pub data Before (x y : Pair) : List Pair → Type 0 where
  at_head : {xs : List Pair} → Memᴰ y xs → Before x y (x ∷ xs)
  further : {z : Pair} {xs : List Pair} → Before x y xs → Before x y (z ∷ xs)

-- every loop once, and nothing else: the length is the number of loops
pub record AllLoops (S : Steps) (xs : List Pair) : Type 0 where
  pub every : (v l : ℕ) → Loop S v l → Memᴰ (v, l) xs
  pub only : (v l : ℕ) → Memᴰ (v, l) xs → Loop S v l
  pub once : Distinct xs

-- an order of all loops: each after every loop that starts inside its body, its own start aside
pub record Order (S : Steps) (xs : List Pair) : Type 0 where
  pub loops : AllLoops S xs
  pub waits : (v l w m : ℕ) → Loop S v l → Loop S w m → w ≢ v → Plus (InLoop S v l) v w → Before (w, m) (v, l) xs
