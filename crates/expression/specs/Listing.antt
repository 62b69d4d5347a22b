-- The chart's transitions in the order of a body: for each vertex, the bits of its word in turn.
use Rattle.std.specs.Prelude.{ℕ, zero, suc, ◌+◌, ◌/◌, ◌%◌, ◌^◌, ◌<◌, ◌≡◌, cond, List, [], ◌∷◌, ◌++◌, map, eqb, length, get_or}
use Rattle.std.proofs.lemmas.List.Edits.{sets}
use Rattle.bits.specs.Words.{On}
use Rattle.bits.specs.Counts.{bits_below}
use Rattle.theory.specs.Transitions.{Transition}

-- the bits of x below k that are set, rising
unfoldable pub bits_of : ℕ → ℕ → List ℕ
bits_of x zero = []
bits_of x (suc k) = bits_of x k ++ cond (eqb (x / 2 ^ k % 2) 1) (k ∷ []) []

-- the transition from the vertex of node k that has rank i: its key is taken apart
unfoldable pub transition_of : List ℕ → ℕ → ℕ → Transition
transition_of keys k i = (suc k, get_or keys i 0 / 256, get_or keys i 0 % 256)

-- the transitions from the vertex of node k, which has the word x
unfoldable pub word_transitions : List ℕ → ℕ → ℕ → List Transition
word_transitions keys k x = map (transition_of keys k) (bits_of x 64)

-- the transitions from the vertices of the n nodes from k on
unfoldable pub listing : List ℕ → List ℕ → ℕ → ℕ → List Transition
listing keys words k zero = []
listing keys words k (suc n) = word_transitions keys k (get_or words (suc k) 0) ++ listing keys words (suc k) n

-- their number
unfoldable pub bits_from : List ℕ → ℕ → ℕ → ℕ
bits_from words k zero = 0
bits_from words k (suc n) = bits_below (get_or words (suc k) 0) 64 + bits_from words (suc k) n

-- the keys of a word's bits can be taken apart into two bytes
pub record KeysFit (keys : List ℕ) (x : ℕ) : Type 0 where
  pub each : (i : ℕ) → On x i → get_or keys i 0 < 65536

-- b is a with bytes stored from index at on, and r the next index
pub record Stored (a : List ℕ) (at : ℕ) (bytes b : List ℕ) (r : ℕ) : Type 0 where
  pub is : b ≡ sets a at bytes
  pub next : r ≡ at + length bytes
