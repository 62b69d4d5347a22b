-- Where an action leads from a set of vertices, which actions the set offers, what leads into a set, and where a vertex
-- leads.
use Rattle.std.specs.Prelude.{ℕ, ◌≤◌, ◌<◌, ◌≡◌, ◌↔◌, List, eqb, length, get_or}
use Rattle.bits.specs.Bits.{list_from}
use Rattle.bits.specs.declared.sets.Set.{Set}
use Rattle.bits.specs.Sets.{Has}
use Rattle.chart.specs.Steps.{ActsOf}

-- a transition with the action a leads from a vertex of the set to w
abbrev pub Image : List ℕ → Set → ℕ → ℕ → Type 0
Image b s a w = (u : ℕ) × Has s u × ActsOf b u a w

-- u has a transition with the action a to a vertex of the set
pub record ActsInto (b : List ℕ) (u : ℕ) (t : Set) (a : ℕ) : Type 0 where
  pub to : ℕ
  pub acts : ActsOf b u a to
  pub member : Has t to

-- an action leads from a vertex of one set to a vertex of another
pub record LeadsInto (b : List ℕ) (s t : Set) (a : ℕ) : Type 0 where
  pub to : ℕ
  pub image : Image b s a to
  pub member : Has t to

-- some transition leads from u to w
abbrev pub LeadsTo : List ℕ → ℕ → ℕ → Type 0
LeadsTo b u w = (a : ℕ) × ActsOf b u a w

-- u has a transition with the action a
pub record ActsFrom (b : List ℕ) (u a : ℕ) : Type 0 where
  pub to : ℕ
  pub acts : ActsOf b u a to

-- a vertex of the set has one
pub record Offers (b : List ℕ) (s : Set) (a : ℕ) : Type 0 where
  pub from : ℕ
  pub member : Has s from
  pub acts : ActsFrom b from a

-- 256 marks: 1 for each number with P, 0 for the others
pub record Marks (P : ℕ → Type 0) (marks : List ℕ) : Type 0 where
  pub long : length marks ≡ 256
  pub low : (a : ℕ) → get_or marks a 0 ≤ 1
  pub exactly : (a : ℕ) → a < 256 → (get_or marks a 0 ≡ 1) ↔ P a

-- the numbers with P, which are below 256, have come to be marked; all else stays
pub record MarksMore (P : ℕ → Type 0) (before after : List ℕ) : Type 0 where
  pub long : length after ≡ length before
  pub marked : (a : ℕ) → a < 256 → P a → get_or after a 0 ≡ 1
  pub others : (a : ℕ) → ¬ P a → get_or after a 0 ≡ get_or before a 0

-- the numbers that are marked, ascending
abbrev pub marked_of : List ℕ → List ℕ
marked_of marks = list_from (λ a. eqb (get_or marks a 0) 1) 0 256
