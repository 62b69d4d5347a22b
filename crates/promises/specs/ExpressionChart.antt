-- Writing the expression's chart into lent bytes: what each answer says, with the bytes after it. An answer has the checks
-- before it pass.
use Rattle.std.specs.Prelude.{List, ◌++◌, ℕ, ◌<◌, ◌≤◌, length, drop, Result, Ok, Err}
use Rattle.report.specs.declared.Refusal.{Refusal}
use Rattle.report.specs.declared.Refusal.TheVariants as refusal
use Rattle.report.specs.Numbers.{length_numbers}
use Rattle.expression.specs.Table as nodes
use Rattle.expression.specs.Body.{body_of, written_of, buffer_of}
use Rattle.promises.specs.Check.{FirstMalformed, FirstNotUsedOnce}
use Rattle.promises.specs.Numbered.{ByNumbers}

module _ (s out : List ℕ) where
  -- EACH ANSWER, with the lent bytes `out` after it; a refusal leaves them as they were
  pub data ChartAnswer : Result ℕ Refusal → (after : List ℕ) → Type 0 where
    -- 10: not 1 to 127 nodes of four bytes; the length
    other_size : ¬ nodes.Sized s → ChartAnswer (Err (refusal.NodesLength (length s))) out
    -- 11: malformed node; the lowest
    malformed : {p : ℕ} → FirstMalformed s p → ChartAnswer (Err (refusal.Node p)) out
    -- 12: non-root node not used once; the lowest, and its uses
    misused : {p : ℕ} → FirstNotUsedOnce s p → ChartAnswer (Err (refusal.NodeUses p (nodes.uses_of s p))) out
    -- 54: lent output too short; the bytes needed
    too_short : nodes.WellFormed s → length out < length (body_of s)
        → ChartAnswer (Err (refusal.OutputLength (length (body_of s)))) out
    -- nothing is refused: the length in bytes; the chart stands at the beginning, and the bytes past it are kept
    written : nodes.WellFormed s → length (body_of s) ≤ length out
        → ChartAnswer (Ok (length (body_of s))) (body_of s ++ drop (length (body_of s)) out)

  -- it answers n p q r and leaves these bytes exactly where that is meant
  abbrev pub ChartByNumbers : Type 0
  ChartByNumbers = ByNumbers length_numbers ChartAnswer (written_of s (length out)) (buffer_of s out)
