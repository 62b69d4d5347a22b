-- Standing bytes, one a transition: 1 stands, 0 is gone. They are said by index, since two transitions that differ in
-- their action only are one step of `StepsOf`.
use Rattle.std.specs.Prelude.{ℕ, ◌≤◌, ◌<◌, ◌≡◌, ◌⊎◌, ◌↔◌, List, length, get_or}
use Rattle.theory.specs.Standing.{Loops}
use Rattle.theory.specs.Removals.{Only}
use Rattle.chart.specs.Bodies.{count_of, from_of}

-- transition i is a branch, or an entry whose loop is in the set
abbrev pub StandsAt : (body labels : List ℕ) → Loops → ℕ → Type 0
StandsAt body labels X i = (get_or labels i 0 ≡ 0) ⊎ X (from_of body i) (get_or labels i 0)

-- the bytes stand for a set of loops: a byte is 1 exactly for a branch, or for an entry whose loop is in the set
pub record StandsFor (body labels standing : List ℕ) (X : Loops) : Type 0 where
  pub long : length standing ≡ count_of body
  pub marks : (i : ℕ) → i < count_of body → get_or standing i 0 ≤ 1
  pub stands : (i : ℕ) → i < count_of body → (get_or standing i 0 ≡ 1) ↔ StandsAt body labels X i

-- what taking out the loops of a set makes of the bytes: 0 where a transition is an entry of one of them; all else is
-- unchanged
pub record TakenOutOf (body labels : List ℕ) (X : Loops) (before after : List ℕ) : Type 0 where
  pub long : length after ≡ length before
  pub gone : (i : ℕ) → i < count_of body → X (from_of body i) (get_or labels i 0) → get_or after i 0 ≡ 0
  pub kept : (i : ℕ) → i < count_of body → ¬ X (from_of body i) (get_or labels i 0) → get_or after i 0 ≡ get_or before i 0

-- of one loop
abbrev pub TakenOut : (body labels : List ℕ) (v l : ℕ) (before after : List ℕ) → Type 0
TakenOut body labels v l before after = TakenOutOf body labels (Only v l) before after
