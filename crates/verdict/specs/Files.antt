-- The yard file: four records of kinds 1 to 4, nothing after; and the refusals 1 to 4, as a test and by cases.
use Rattle.std.specs.Prelude.{cond, List, [], ◌∷◌, ◌++◌, ◌≡◌, ◌≢◌, ℕ, zero, suc, ◌+◌, ◌/◌, ◌%◌, ◌<◌, ◌≤◌, eqb, ltb, length, take, drop, Result, Ok, Err}
use Rattle.bits.specs.Packed.{two_at}
use Rattle.report.specs.Stages.{after}
use Rattle.report.specs.declared.Refusal.{Refusal}
use Rattle.report.specs.declared.Refusal.TheVariants.{File, Record, RecordKind, FileOffset}

-- THE MEANING. A number in two bytes, the low one first; a record: the length of its body, its kind, its body
abbrev pub two_bytes : ℕ → List ℕ
two_bytes n = n % 256 ∷ n / 256 ∷ []

abbrev pub record_of : ℕ → List ℕ → List ℕ
record_of kind body = two_bytes (length body) ++ (two_bytes kind ++ body)

-- the file that holds these four bodies
abbrev pub file_of : List ℕ → List ℕ → List ℕ → List ℕ → List ℕ
file_of a b c d = record_of 1 a ++ (record_of 2 b ++ (record_of 3 c ++ record_of 4 d))

-- THE TESTS. The offset after the record at an offset, and its kind
abbrev pub end_at : List ℕ → ℕ → ℕ
end_at f at = at + 4 + two_at f at

abbrev pub kind_at : List ℕ → ℕ → ℕ
kind_at f at = two_at f (at + 2)

-- 2 and 3 of the record of this kind at an offset: header, kind, body
unfoldable pub record_stage : List ℕ → ℕ → ℕ → Result Unit Refusal
record_stage f kind at =
    cond (ltb (length f) (at + 4)) (Err (Record kind))
    (cond (eqb (kind_at f at) kind)
    (cond (ltb (length f) (end_at f at)) (Err (Record kind)) (Ok tt))
    (Err (RecordKind kind (kind_at f at))))

-- the n records from an offset on, then 4
unfoldable pub records_from : List ℕ → ℕ → ℕ → ℕ → Result Unit Refusal
records_from f kind at zero = cond (ltb at (length f)) (Err (FileOffset at)) (Ok tt)
records_from f kind at (suc n) = after (record_stage f kind at) (records_from f (suc kind) (end_at f at) n)

unfoldable pub records_of : List ℕ → Result Unit Refusal
records_of f = cond (ltb 43536 (length f)) (Err File) (records_from f 1 0 4)

-- where record k begins, from 0, and its body
unfoldable pub offset_of : List ℕ → ℕ → ℕ
offset_of f zero = 0
offset_of f (suc k) = end_at f (offset_of f k)

unfoldable pub body_at : List ℕ → ℕ → List ℕ
body_at f k = take (two_at f (offset_of f k)) (drop (offset_of f k + 4) f)

-- the header at an offset is there
abbrev pub HasHeader : List ℕ → ℕ → Type 0
HasHeader f at = at + 4 ≤ length f

-- what the refusals 2 and 3 ask of a record at an offset
pub record RecordFits (f : List ℕ) (kind at : ℕ) : Type 0 where
  pub header : HasHeader f at
  pub is_kind : kind_at f at ≡ kind
  pub body : end_at f at ≤ length f

-- a file of four records of kinds 1 to 4, nothing after
pub record Whole (f : List ℕ) : Type 0 where
  pub short : length f ≤ 43536
  pub each : (k : ℕ) → k < 4 → RecordFits f (suc k) (offset_of f k)
  pub nothing_after : offset_of f 4 ≡ length f

-- 1 does not refuse, and every record before record k, from 0, fits
abbrev pub RecordsBefore : List ℕ → ℕ → Type 0
RecordsBefore f k = (length f ≤ 43536) × ((j : ℕ) → j < k → RecordFits f (suc j) (offset_of f j))

-- THE REFUSALS 1 TO 4, by cases: where a record is refused, those before it fit
pub data RecordsChecked (f : List ℕ) : Result Unit Refusal → Type 0 where
  too_long : 43536 < length f → RecordsChecked f (Err File)
  cut_header : (k : ℕ) → k < 4 → RecordsBefore f k → length f < offset_of f k + 4
      → RecordsChecked f (Err (Record (suc k)))
  other_kind : (k : ℕ) → k < 4 → RecordsBefore f k → HasHeader f (offset_of f k) → kind_at f (offset_of f k) ≢ suc k
      → RecordsChecked f (Err (RecordKind (suc k) (kind_at f (offset_of f k))))
  cut_body : (k : ℕ) → k < 4 → RecordsBefore f k → HasHeader f (offset_of f k) → kind_at f (offset_of f k) ≡ suc k
      → length f < end_at f (offset_of f k) → RecordsChecked f (Err (Record (suc k)))
  bytes_after : RecordsBefore f 4 → offset_of f 4 < length f → RecordsChecked f (Err (FileOffset (offset_of f 4)))
  whole : Whole f → RecordsChecked f (Ok tt)
