-- The places of the expression's transitions, by the numbers of its steps.
use Rattle.std.specs.Prelude.{List, ℕ, ◌+◌, ◌*◌, ◌<◌, get_or}
use Rattle.bits.specs.First.{Split}
use Rattle.chart.specs.Bodies.{count_of, key_at, WellFormed}
use Rattle.chart.specs.Numbered.{Numbered}

-- the number of transition i is below n
pub record KeyBelow (body : List ℕ) (n i : ℕ) : Type 0 where
  pub is : key_at body i < n

-- r transitions of a body have a number below n, and they come first
abbrev pub KeysSplit : List ℕ → ℕ → ℕ → Type 0
KeysSplit body n r = Split (KeyBelow body n) (count_of body) r

-- of every chart with these words: r is the number of transitions that leave a vertex below u
abbrev pub FirstPlace : List ℕ → ℕ → ℕ → Type 0
FirstPlace words u r = (e keys : List ℕ) (m : ℕ) → WellFormed e → Numbered e keys words m → KeysSplit e (65536 * u) r

-- r is the number of transitions before the one that leaves u with step k
abbrev pub StepPlace : List ℕ → ℕ → ℕ → ℕ → Type 0
StepPlace words u k r = (e keys : List ℕ) (m : ℕ) → WellFormed e → Numbered e keys words m
    → k < m → KeysSplit e (65536 * u + get_or keys k 0) r
