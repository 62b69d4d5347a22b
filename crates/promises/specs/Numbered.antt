-- What a call says, by its four numbers. The meaning of a call is `Answer x t`: what document 01 or 02 says of the answer x
-- and of what is lent, or handed back, after it.
use Rattle.std.specs.Prelude.{◌≡◌, ◌↔◌}
use Rattle.report.specs.declared.Numbers.{Numbers}

-- some answer is meant, and k are its number and values
pub record Numbered {X : Type 0} (numbers : X → Numbers) (Answer : X → Type 0) (k : Numbers) : Type 0 where
  pub answer : X
  pub meant : Answer answer
  pub numbered : numbers answer ≡ k

-- the numbers tell the answer: no two have the same
abbrev pub Telling : {X : Type 0} → (X → Numbers) → Type 0
Telling {X} numbers = (x y : X) → numbers x ≡ numbers y → x ≡ y

module _ {X L : Type 0} (numbers : X → Numbers) where
  -- the answer c has the numbers k, and what is left is t
  abbrev pub Gives : (c : X) (left : L) → Numbers → (t : L) → Type 0
  Gives c left k t = (numbers c ≡ k) × (left ≡ t)

  -- BY THE NUMBERS: a call that answers c and leaves `left` gives n p q r and t exactly where that is meant
  abbrev pub ByNumbers : (Answer : X → L → Type 0) (c : X) (left : L) → Type 0
  ByNumbers Answer c left = (k : Numbers) (t : L) → Gives c left k t ↔ Numbered numbers (λ x. Answer x t) k
