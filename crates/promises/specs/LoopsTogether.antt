-- Several loops out together (document 02, C-12). What each answer says, with the standing bytes after it, is
-- `TogetherAnswer`; then what holds of lists that are done, of the empty list, and over an accepted file.
use Rattle.std.specs.Prelude.{◌≡◌, ◌≢◌, ℕ, Ok}
use mathlib.Core.List.{List, [], map, Permᴰ}
use Rattle.theory.specs.Standing.{Loops}
use Rattle.theory.specs.Orders.{Pair, Listing}
use Rattle.report.specs.declared.Numbers.{Numbers}
use Rattle.report.specs.Numbers.{four, done_numbers}
use Rattle.chart.specs.Standing.{StandsFor}
use Rattle.elimination.specs.Removals.{answers_of, left_after}
use Rattle.elimination.specs.Together.{loops_of, together_of, left_together}
use Rattle.elimination.specs.TogetherAnswers.{TogetherAnswer}
use Rattle.verdict.specs.Verdicts.{chart_in, labels_in}
use Rattle.promises.specs.Numbered.{Gives, ByNumbers}

module _ (b labels loops standing : List ℕ) where
  -- the answer has these numbers, and these bytes are left
  abbrev pub TogetherGives : Numbers → (t : List ℕ) → Type 0
  TogetherGives = Gives done_numbers (together_of b labels loops standing) (left_together b labels loops standing)

  -- it answers n p q r and leaves these bytes exactly where that is meant
  abbrev pub TogetherByNumbers : Type 0
  TogetherByNumbers = ByNumbers done_numbers (TogetherAnswer b labels loops standing)
      (together_of b labels loops standing) (left_together b labels loops standing)

  -- OF A LIST THAT IS DONE: in every order its loops go one by one, each on what the one before left, none refused,
  -- and leave the same bytes
  abbrev pub InEveryOrder : Type 0
  InEveryOrder = (ds : List Pair) → Permᴰ (loops_of loops) ds
      → (answers_of b labels ds standing ≡ map (λ c. (Ok tt)) ds)
      × (left_after b labels ds standing ≡ left_together b labels loops standing)

-- OF THE EMPTY LIST: it is done, and leaves every byte
abbrev pub EmptyDone : (b labels standing : List ℕ) → Type 0
EmptyDone b labels standing = TogetherGives b labels [] standing (four 0 0 0 0) standing

-- OVER AN ACCEPTED FILE f, where the bytes stand for a plain set X of its loops
pub record OverAccepted (f : List ℕ) (X : Loops) (standing : List ℕ) : Type 0 where
  -- no list is refused with 57
  pub never_57 : (loops : List ℕ) → (done_numbers (together_of (chart_in f) (labels_in f) loops standing)).n ≢ 57
  -- and a list that is done leaves them standing for the loops of X that are not in the list
  pub keeps : (loops t : List ℕ) → TogetherGives (chart_in f) (labels_in f) loops standing (four 0 0 0 0) t
      → StandsFor (chart_in f) (labels_in f) t (λ v l. X v l × ¬ Listing (loops_of loops) v l)
