-- What stands of a labelled chart while some of its loops are taken out (001, the procedure after Definition 3.1).
use Rattle.std.specs.Prelude.{◌≡◌, ◌≢◌, ◌⊎◌, ◌↔◌, ℕ}
use Rattle.theory.specs.Charts.{Steps, SameSteps, Loop}
use Rattle.theory.specs.LoopCharts.{InBody}

-- a set of loops: X v l says that the loop (v, l) is in it
abbrev pub Loops : Type 1
Loops = ℕ → ℕ → Type 0

-- the same loops
abbrev pub SameLoops : Loops → Loops → Type 0
SameLoops X Y = (v l : ℕ) → X v l ↔ Y v l

-- a set of loops of S of which it is decided which are in it
pub record DecidedLoops (S : Steps) (X : Loops) : Type 0 where
  pub loops : (v l : ℕ) → X v l → Loop S v l
  pub member : (v l : ℕ) → Dec (X v l)

-- a transition stands when it is a branch, or an entry whose loop is in the set
abbrev pub Standing : Steps → Loops → Steps
Standing S X u l w = S u l w × ((l ≡ 0) ⊎ X u l)

-- R is what stands of S while the loops of X remain
abbrev pub Agree : Steps → Loops → Steps → Type 0
Agree S X R = SameSteps R (Standing S X)

-- a loop of the set starts inside the body of (v, l), and not at v
abbrev pub Inside : Steps → Loops → ℕ → ℕ → Type 0
Inside S X v l = (w m : ℕ) × X w m × (w ≢ v) × InBody S v l w
