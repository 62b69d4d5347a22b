-- The steps of a chart as bits: each pair of action and target has a number below 64, and a vertex has a word.
use Rattle.std.specs.Prelude.{ℕ, ◌/◌, ◌%◌, ◌≤◌, ◌<◌, ◌≡◌, ◌↔◌, List, length, get_or}
use Rattle.bits.specs.Words.{On}
use Rattle.chart.specs.Steps.{ActsOf}

-- the first m keys are 256 * action + target, each used by some word; a word has only bits of keys
pub record Listed (keys words : List ℕ) (m : ℕ) : Type 0 where
  pub few : m ≤ 64
  pub keys_long : length keys ≡ 128
  pub words_long : length words ≡ 128
  pub fit : (i : ℕ) → i < m → get_or keys i 0 < 65536
  pub known : (u i : ℕ) → On (get_or words u 0) i → i < m
  pub used : (i : ℕ) → i < m → (u : ℕ) × On (get_or words u 0) i

-- they are in order, each once, and 0 stands past them
pub record Coded (keys words : List ℕ) (m : ℕ) : Type 0 where
  pub listed : Listed keys words m
  pub rising : (i j : ℕ) → i < j → j < m → get_or keys i 0 < get_or keys j 0
  pub rest : (i : ℕ) → m ≤ i → get_or keys i 0 ≡ 0

-- vertex u has the step by action a to w exactly where some bit of its word has the key for it
abbrev pub HasSteps : (body keys words : List ℕ) → ℕ → Type 0
HasSteps body keys words m = (u a w : ℕ) → ActsOf body u a w
    ↔ ((i : ℕ) × (i < m) × (get_or keys i 0 / 256 ≡ a) × (get_or keys i 0 % 256 ≡ w) × On (get_or words u 0) i)

-- the steps of the body in any order, equal ones perhaps more than once
pub record Lists (body keys words : List ℕ) (m : ℕ) : Type 0 where
  pub listed : Listed keys words m
  pub exactly : HasSteps body keys words m

-- the same in order, each once
pub record Numbered (body keys words : List ℕ) (m : ℕ) : Type 0 where
  pub coded : Coded keys words m
  pub exactly : HasSteps body keys words m
