-- Writing the expression's chart into lent bytes, by the numbers, proved.
use mathlib.Core.Path.{◌≡◌}
use mathlib.Core.Logic.{◌↔◌, by_cases}
use mathlib.Core.List.{List}
use Prim.Native.Nat.{ℕ}
use native.Mathlib.Decide.{dec_lt}
use native.Mathlib.Omega.{arith}
use lib.ListN.{length}
use borrow.Author.Tests.{lt-ltb, le-ltb}
use Rattle.std.specs.Prelude.{Result, Err}
use Rattle.report.specs.declared.Refusal.{Refusal}
use Rattle.report.specs.Numbers.{length_numbers}
use Rattle.expression.specs.Table as nodes
use Rattle.expression.specs.Table.{NodesChecked, passed, ill_sized, malformed_at, misused_at}
use Rattle.expression.specs.Body.{body_of, written_of, buffer_after, buffer_of}
use Rattle.expression.proofs.Table.{checked, well_formed→passed}
use Rattle.promises.specs.ExpressionChart.{ChartAnswer, other_size, malformed, misused, too_short, written, ChartByNumbers}
use Rattle.promises.proofs.Check.{check_10, check_11, check_12, first_malformed, first_misused}
use Rattle.promises.proofs.Numbered.{by_numbers}

module _ (s out : List ℕ) where
  abbrev Gives : Result ℕ Refusal → List ℕ → Type 0
  Gives x after = (written_of s (length out) ≡ x) × (buffer_of s out ≡ after)

  gives : {x : Result ℕ Refusal} → written_of s (length out) ≡ x → Gives x (buffer_after x (body_of s) out)
  unfolding buffer_of
  gives e = (e, rw e)

  refusing : {p : Refusal} → nodes.check_of s ≡ Err p → Gives (Err p) out
  unfolding written_of
  refusing e = gives (rw e)

  answer_gives : {x : Result ℕ Refusal} {after : List ℕ} → ChartAnswer s out x after → Gives x after
  unfolding written_of
  answer_gives (other_size h) = refusing (check_10 s h)
  answer_gives (malformed h) = refusing (check_11 s h)
  answer_gives (misused h) = refusing (check_12 s h)
  answer_gives (too_short w h) = gives (rw (well_formed→passed s w, lt-ltb (length out) (length (body_of s)) h))
  answer_gives (written w h) = gives (rw (well_formed→passed s w, le-ltb (length out) (length (body_of s)) h))

  -- some answer is meant
  abbrev Answered : Type 0
  Answered = ChartAnswer s out (written_of s (length out)) (buffer_of s out)

  given : {x : Result ℕ Refusal} {after : List ℕ} → ChartAnswer s out x after → Answered
  given h = let (e, f) = answer_gives h in rw (e, f) h

  answered : {x : Result Unit Refusal} → NodesChecked s x → Answered
  answered (passed w) =
      by_cases (dec_lt (length out) (length (body_of s))) (λ h. given (too_short w h)) (λ h. given (written w (omega arith)))
  answered (ill_sized h) = given (other_size h)
  answered (malformed_at p z h e low) = given (malformed (first_malformed s z h e low))
  answered (misused_at p z g h e low) = given (misused (first_misused s z g h e low))

  pub chart_says : (x : Result ℕ Refusal) (after : List ℕ)
      → ((written_of s (length out) ≡ x) × (buffer_of s out ≡ after)) ↔ ChartAnswer s out x after
  chart_says x after = ((λ (e, f). rw (e, f) at (answered (checked s))), answer_gives)

  pub chart_numbers : ChartByNumbers s out
  chart_numbers = by_numbers length_numbers chart_says
