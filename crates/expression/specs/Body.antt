-- The expression's chart in the form of a chart body, and what writing it into lent bytes answers and leaves there.
use Rattle.std.specs.Prelude.{ℕ, suc, ◌/◌, ◌%◌, cond, List, [], ◌∷◌, ◌++◌, ltb, length, drop, Result, Ok, Err}
use Rattle.report.specs.declared.Refusal.{Refusal}
use Rattle.report.specs.declared.Refusal.TheVariants as refusal
use Rattle.theory.specs.Transitions.{Transition}
use Rattle.theory.specs.ExpressionCharts.{transitions}
use Rattle.expression.specs.Table.{node, count, check_of}

unfoldable pub four_of : ℕ → ℕ → ℕ → ℕ → List ℕ
four_of a b c d = a ∷ b ∷ c ∷ d ∷ []

-- four bytes a transition: from, action, to, 0
unfoldable pub flat : List Transition → List ℕ
flat [] = []
flat (x ∷ xs) = four_of x.0 x.1 x.2 0 ++ flat xs

-- the transitions of the chart
unfoldable pub chart_transitions : List ℕ → List Transition
chart_transitions s = transitions (node s) (count s)

-- V, the start, T in two bytes, and the transitions
abbrev pub head_of : ℕ → ℕ → List ℕ
head_of n t = four_of (suc n) n (t % 256) (t / 256)

unfoldable pub body_of : List ℕ → List ℕ
body_of s = head_of (count s) (length (chart_transitions s)) ++ flat (chart_transitions s)

-- 54, where the checks of the nodes have passed
abbrev pub written_after : Result Unit Refusal → ℕ → ℕ → Result ℕ Refusal
written_after (Err p) needed n = Err p
written_after (Ok tt) needed n =
    cond (ltb n needed) (Err (refusal.OutputLength needed)) (Ok needed)

-- the answer for n lent bytes
unfoldable pub written_of : List ℕ → ℕ → Result ℕ Refusal
written_of s n = written_after (check_of s) (length (body_of s)) n

-- the lent bytes after the call: as they were, or the body and what stood past it
abbrev pub buffer_after : Result ℕ Refusal → List ℕ → List ℕ → List ℕ
buffer_after (Err p) body out = out
buffer_after (Ok k) body out = body ++ drop (length body) out

unfoldable pub buffer_of : List ℕ → List ℕ → List ℕ
buffer_of s out = buffer_after (written_of s (length out)) (body_of s) out
