-- A chart body (document 01, kind 2): a header of four bytes, then transitions of four bytes.
use Rattle.std.specs.Prelude.{ℕ, suc, ◌+◌, ◌*◌, ◌≤◌, ◌<◌, ◌≡◌, List, length, get_or}

-- the header's numbers: V, the start, T
abbrev pub vertices_of : List ℕ → ℕ
vertices_of b = get_or b 0 0

abbrev pub start_of : List ℕ → ℕ
start_of b = get_or b 1 0

abbrev pub count_of : List ℕ → ℕ
count_of b = get_or b 2 0 + 256 * get_or b 3 0

-- the four bytes of transition i
abbrev pub from_of : List ℕ → ℕ → ℕ
from_of b i = get_or b (4 * i + 4) 0

abbrev pub action_of : List ℕ → ℕ → ℕ
action_of b i = get_or b (4 * i + 4 + 1) 0

abbrev pub to_of : List ℕ → ℕ → ℕ
to_of b i = get_or b (4 * i + 4 + 2) 0

abbrev pub pad_of : List ℕ → ℕ → ℕ
pad_of b i = get_or b (4 * i + 4 + 3) 0

-- the transition at byte p as one number: of bytes, the order by from, then action, then to
abbrev pub key_of : List ℕ → ℕ → ℕ
key_of b p = 65536 * get_or b p 0 + 256 * get_or b (p + 1) 0 + get_or b (p + 2) 0

abbrev pub key_at : List ℕ → ℕ → ℕ
key_at b i = key_of b (4 * i + 4)

-- what 20 asks
pub record HeaderFits (b : List ℕ) : Type 0 where
  pub long : 4 ≤ length b
  pub vertices_low : 2 ≤ vertices_of b
  pub vertices_high : vertices_of b ≤ 128
  pub start_low : 1 ≤ start_of b
  pub start_high : start_of b < vertices_of b
  pub count_high : count_of b ≤ 8192
  pub whole : length b ≡ 4 + 4 * count_of b

-- what 21 asks of a transition by itself
pub record TransitionFits (b : List ℕ) (i : ℕ) : Type 0 where
  pub from_low : 1 ≤ from_of b i
  pub from_high : from_of b i < vertices_of b
  pub action_low : 1 ≤ action_of b i
  pub to_high : to_of b i < vertices_of b
  pub pad_zero : pad_of b i ≡ 0

-- a body that 20 and 21 let pass
pub record WellFormed (b : List ℕ) : Type 0 where
  pub header : HeaderFits b
  pub each : (i : ℕ) → i < count_of b → TransitionFits b i
  pub ascending : (i j : ℕ) → i < j → j < count_of b → key_at b i < key_at b j

-- what 21 asks of a transition: also that it is above the one before it
pub record Sound (b : List ℕ) (i : ℕ) : Type 0 where
  pub fits : TransitionFits b i
  pub above : (j : ℕ) → suc j ≡ i → key_at b j < key_at b i

-- a transition that 21 refuses
abbrev pub Faulty : List ℕ → ℕ → Type 0
Faulty b i = (i < count_of b) × ¬ Sound b i

-- 20 lets the body pass, and 21 the transitions before byte p
pub record SoundTo (b : List ℕ) (p : ℕ) : Type 0 where
  pub header : HeaderFits b
  pub passed : ℕ
  pub place : p ≡ 4 * passed + 4
  pub within : passed ≤ count_of b
  pub each : (i : ℕ) → i < passed → Sound b i
