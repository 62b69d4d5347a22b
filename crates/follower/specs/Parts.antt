-- What the parts of the follower's code answer.
use Rattle.std.specs.Prelude.{ℕ, ◌≤◌, ◌<◌, ◌≡◌, ◌↔◌, length, Ok, Option, Some, None}
use mathlib.Core.List.{List, Memᴰ}
use Rattle.theory.specs.Tests.{Decides}
use Rattle.report.specs.declared.Response.TheVariants.{Taken}
use Rattle.bits.specs.declared.sets.Set.{Set}
use Rattle.bits.specs.Sets.{Has, Empty, Members, BytesOf}
use Rattle.chart.specs.Images.{Image, Offers, Marks, marked_of}
use Rattle.follower.specs.declared.Shown.{Shown}
use Rattle.follower.specs.declared.Moved.{Moved}

-- the set and the list have the same members
abbrev pub Same : Set → List ℕ → Type 0
Same set xs = (v : ℕ) → Has set v ↔ Memᴰ v xs

-- what 53 asks of a set and of a mark, for so many vertices
abbrev pub VerticesFit : ℕ → Set → Type 0
VerticesFit vertices set = (¬ Empty set) × ((w : ℕ) → Has set w → w < vertices)

abbrev pub Fits : ℕ → Set → ℕ → Type 0
Fits vertices set mark = VerticesFit vertices set × (mark ≤ 1)

-- THE STEP from a set by an action: where the action has a target, the set has all of them after it
pub data StepBy (b : List ℕ) (set : Set) (a : ℕ) : Option Set → Type 0 where
  goes : {targets : Set} → ¬ Empty targets → Members (Image b set a) targets → StepBy b set a (Some targets)
  stays : ((w : ℕ) → ¬ Image b set a w) → StepBy b set a None

-- n actions have a transition from a vertex of the set
pub record CountOffered (b : List ℕ) (set : Set) (n : ℕ) : Type 0 where
  pub marks : List ℕ
  pub exactly : Marks (Offers b set) marks
  pub many : n ≡ length (marked_of marks)

-- WHAT A SET SHOWS, by its vertices
pub record SetShows (b : List ℕ) (set : Set) (s : Shown) : Type 0 where
  pub holds_end : Decides s.end (Has set 0)
  pub counts : CountOffered b set s.offered

-- A CALL THAT IS TAKEN to a set: what the set shows, and its bytes, not spoilt
pub record TakenTo (b : List ℕ) (set : Set) (m : Moved) : Type 0 where
  pub shows : Shown
  pub shown : SetShows b set shows
  pub answer : m.answer ≡ Ok (Taken shows.end shows.offered)
  pub bytes : BytesOf set m.follower.set
  pub unspoilt : m.follower.mark ≡ 0
