-- A transition as one number, its code; its key, in the order of charts; and 21 as four comparisons of them.
use Rattle.std.specs.Prelude.{ℕ, ◌+◌, ◌*◌, ◌/◌, ◌%◌, ◌≡◌, Bool, List, ltb, leb}
use Rattle.chart.specs.Bodies.{key_at, SoundTo}
use Rattle.chart.specs.Checks.{◌and◌}

-- a code's from, its action and what is above them: where the last byte is 0, the key of the transition
abbrev pub code_key : ℕ → ℕ
code_key w = 65536 * (w % 256) + 256 * (w / 256 % 256) + w / 65536

-- a code w, its key k, after the key z: 21 but for a from of V or above, and 21
unfoldable pub code_rises : ℕ → ℕ → ℕ → ℕ → Bool
code_rises w k v z = ltb z k and leb 1 (w / 256 % 256) and ltb (w / 65536) v

unfoldable pub code_ok : ℕ → ℕ → ℕ → ℕ → Bool
code_ok w k v z = code_rises w k v z and ltb k (65536 * v)

-- the transitions before byte p have passed, and z is the key before p: the last one's, or the number below all whose
-- from is 1 or above
pub record Turn (b : List ℕ) (p z : ℕ) : Type 0 where
  pub sound : SoundTo b p
  pub first : p ≡ 4 → z ≡ 65535
  pub later : (j : ℕ) → p ≡ 4 * j + 8 → z ≡ key_at b j
