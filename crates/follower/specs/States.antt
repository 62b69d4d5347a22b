-- A follower's state: its bytes, its set of vertices, and its mark. No other definition knows its fields, the set and the mark
-- aside.
use Rattle.std.specs.Prelude.{ℕ, ◌<◌, ◌≡◌, ◌⊎◌, Bool, true, List, [], ◌∷◌, ◌++◌, eqb, length, get_or, take, replicate}
use Rattle.theory.specs.Tests.{some_in}
use Rattle.report.specs.Numbers.{flag}
use Rattle.bits.specs.Bits.{Bytes, has_bit, set_bytes, list_from}
use Rattle.follower.specs.declared.Follower.{Follower}

-- BYTES: how many a state has, those of a state, and the state that so many hold
abbrev pub state_size : ℕ
state_size = 17

abbrev pub bytes_in : Follower → List ℕ
bytes_in f = f.set ++ (f.mark ∷ [])

abbrev pub state_in : List ℕ → Follower
state_in s = record { set = take 16 s; mark = get_or s 16 0 }

-- what the set of every state has: so many, and each is a byte
pub record Formed (f : Follower) : Type 0 where
  pub sixteen : length f.set ≡ 16
  pub bytes : Bytes f.set

-- THE SET: v is in it
abbrev pub InState : Follower → ℕ → Type 0
InState f v = (v < 128) × (has_bit f.set v ≡ true)

-- as a list of vertices; and the bytes of such a list
abbrev pub members_of : Follower → List ℕ
members_of f = list_from (has_bit f.set) 0 128

abbrev pub set_of : List ℕ → List ℕ
set_of xs = set_bytes (λ v. some_in (eqb v) xs)

-- THE MARK: 1 where the state is spoilt, else 0; one of them
abbrev pub Unspoilt : Follower → Type 0
Unspoilt f = f.mark ≡ 0

abbrev pub IsSpoilt : Follower → Type 0
IsSpoilt f = f.mark ≡ 1

abbrev pub Marked : Follower → Type 0
Marked f = Unspoilt f ⊎ IsSpoilt f

-- WHAT THE RULE KEEPS beside the set: whether the state is spoilt
abbrev pub kept_in : Follower → Bool
kept_in f = eqb f.mark 1

-- the state with a set's bytes and what is kept; a state when it is spoilt; the empty state
abbrev pub state_with : List ℕ → Bool → Follower
state_with set spoilt = record { set = set; mark = flag spoilt }

abbrev pub spoilt_state : Follower → Follower
spoilt_state f = state_with f.set true

abbrev pub no_state : Follower
no_state = record { set = replicate 16 0; mark = 0 }
