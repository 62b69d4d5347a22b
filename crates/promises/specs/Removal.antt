-- Taking out a loop. What each answer says, with the standing bytes after it, is `RemovalAnswer`.
use Rattle.std.specs.Prelude.{List, ℕ}
use Rattle.report.specs.Numbers.{done_numbers}
use Rattle.elimination.specs.Removals.{removal_of, left_of}
use Rattle.elimination.specs.RemovalAnswers.{RemovalAnswer}
use Rattle.promises.specs.Numbered.{ByNumbers}

-- it answers n p q r and leaves these bytes exactly where that is meant
abbrev pub RemovalByNumbers : (b labels : List ℕ) (v l : ℕ) (standing : List ℕ) → Type 0
RemovalByNumbers b labels v l standing =
    ByNumbers done_numbers (RemovalAnswer b labels v l standing)
    (removal_of b labels v l standing) (left_of b labels v l standing)
