-- Taking out loops: the answer by the rule on standing transitions, the answer of a plain set of loops, and lists of
-- calls of both.
use Rattle.std.specs.Prelude.{◌≡◌, List, [], ◌∷◌, map, ℕ}
use Rattle.theory.specs.Paths.{Endless, Returns, Star}
use Rattle.theory.specs.Charts.{Steps, SameSteps, Loop}
use Rattle.theory.specs.LoopCharts.{Around, LoopChart}
use Rattle.theory.specs.Standing.{Loops, SameLoops, Inside}

-- with the places of document 01; r is the first of L1, L2, L3 that is broken
pub data Answer : Type 0 where
  done : Answer
  refused_51 : (v l : ℕ) → Answer
  refused_52 : (v l r : ℕ) → Answer

-- what taking out (v, l) answers where the transitions R stand
pub data Removes (R : Steps) (v l : ℕ) : Answer → Type 0 where
  absent : ¬ Loop R v l → Removes R v l (refused_51 v l)
  goes : Loop R v l → LoopChart (Around R v l) v → Removes R v l done
  breaks_L1 : Loop R v l → ¬ Endless (Around R v l) v → Removes R v l (refused_52 v l 1)
  breaks_L2 : Loop R v l → Endless (Around R v l) v → ¬ Returns (Around R v l) v → Removes R v l (refused_52 v l 2)
  breaks_L3 : Loop R v l → Endless (Around R v l) v → Returns (Around R v l) v → Star (Around R v l) v 0
      → Removes R v l (refused_52 v l 3)

-- what a plain set X of the loops of S answers
pub data Plain (S : Steps) (X : Loops) (v l : ℕ) : Answer → Type 0 where
  absent : ¬ X v l → Plain S X v l (refused_51 v l)
  inner : X v l → Inside S X v l → Plain S X v l (refused_52 v l 2)
  goes : X v l → ¬ Inside S X v l → Plain S X v l done

-- the loop (v, l) alone, and the pairs other than it
abbrev pub Only : ℕ → ℕ → Loops
Only v l u m = (u ≡ v) × (m ≡ l)

abbrev pub Different : ℕ → ℕ → ℕ → ℕ → Type 0
Different v l u m = ¬ Only v l u m

-- what a call leaves standing: where it is done, the entries of its loop are gone
abbrev pub left_steps : Answer → ℕ → ℕ → Steps → Steps
left_steps done v l R u m w = R u m w × Different v l u m
left_steps (refused_51 p q) v l R u m w = R u m w
left_steps (refused_52 p q r) v l R u m w = R u m w

-- what a call leaves in the set: where it is done, its loop is gone
abbrev pub left_loops : Answer → ℕ → ℕ → Loops → Loops
left_loops done v l X u m = X u m × Different v l u m
left_loops (refused_51 p q) v l X u m = X u m
left_loops (refused_52 p q r) v l X u m = X u m

-- the answers to a list of calls, each on what the one before left, and what stands after the list. What is left is any
-- relation with these transitions, so that bytes can be what is left
pub data RemovesAll : Steps → List (ℕ × ℕ) → List Answer → Steps → Type 1 where
  none : {R : Steps} → RemovesAll R [] [] R
  call : {R Q Z : Steps} {v l : ℕ} {a : Answer} {cs : List (ℕ × ℕ)} {answers : List Answer}
      → Removes R v l a → SameSteps Q (left_steps a v l R) → RemovesAll Q cs answers Z
      → RemovesAll R ((v, l) ∷ cs) (a ∷ answers) Z

pub data PlainAll (S : Steps) : Loops → List (ℕ × ℕ) → List Answer → Loops → Type 1 where
  none : {X : Loops} → PlainAll S X [] [] X
  call : {X Y Z : Loops} {v l : ℕ} {a : Answer} {cs : List (ℕ × ℕ)} {answers : List Answer}
      → Plain S X v l a → SameLoops Y (left_loops a v l X) → PlainAll S Y cs answers Z
      → PlainAll S X ((v, l) ∷ cs) (a ∷ answers) Z

-- no call of the list is refused
abbrev pub all_done : List (ℕ × ℕ) → List Answer
all_done cs = map (λ c. done) cs
