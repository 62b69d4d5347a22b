-- What the code's parts say is the answer: 31, then 32, then the loops.
use mathlib.Core.Path.{◌≡◌, sym, ◌∙◌, ap}
use mathlib.Core.List.{List}
use Prim.Native.Nat.{ℕ, ◌≤◌, ◌<◌}
use native.Mathlib.Omega.{arith}
use lib.ListN.{length}
use Rattle.theory.specs.Witnesses.{Connected}
use Rattle.theory.specs.Least.{Least}
use Rattle.theory.specs.Checks.{OnBranchCycle, all_pass, fails_31, fails_32, fails_loop}
use Rattle.std.specs.Prelude.{Ok, Err, Some, None}
use Rattle.report.specs.declared.Refusal.{Refusal}
use Rattle.report.specs.declared.Refusal.TheVariants as refusal
use Rattle.bits.specs.Bits.{Bytes}
use Rattle.bits.specs.First.{First}
use Rattle.chart.specs.Bodies.{vertices_of, start_of, count_of, WellFormed}
use Rattle.chart.specs.Steps.{StepsOf}
use Rattle.witness.specs.Labellings.{loops_of, labelled_of}
use Rattle.witness.specs.Given.{FirstUnreached}
use Rattle.witness.specs.Answers.{LoopsSaid}
use Rattle.witness.proofs.Labellings.{all_reached, labelled_checked}
use Rattle.witness.proofs.Reaching.{acyclic}

least : {P : ℕ → Type 0} {n r : ℕ} → First P 0 n r → r < n → Least P r
least F h = record { holds = F.holds h; lowest = λ k. F.before k (omega arith) }

module _ (b labels : List ℕ) (W : WellFormed b) (B : Bytes labels) (long : length labels ≡ count_of b) where
  pub answer_31 : {p : ℕ} → FirstUnreached b labels (Some p) → labelled_of b labels ≡ Err (refusal.Unreached p)
  answer_31 U = labelled_checked b labels W B long (fails_31 (least U.first U.below))

  module _ (U : FirstUnreached b labels None) {q : ℕ} (C : First (OnBranchCycle (StepsOf b labels)) 0 (vertices_of b) q) where
    reached : Connected (vertices_of b) (StepsOf b labels) (start_of b)
    reached = all_reached b labels W B (λ w h. U.first.before w (omega arith) h)

    pub answer_32 : q < vertices_of b → labelled_of b labels ≡ Err (refusal.BranchCycle q)
    answer_32 h = labelled_checked b labels W B long (fails_32 reached (least C h))

    module _ (none : vertices_of b ≤ q) where
      pub answer_passed : LoopsSaid (StepsOf b labels) (Ok tt) → {n : ℕ} → n ≡ loops_of b labels → Ok n ≡ labelled_of b labels
      answer_passed a e =
          ap Ok e ∙ sym (labelled_checked b labels W B long (all_pass reached (record { c32 = acyclic W C none; loops = a })))

      pub answer_refused : {x : Refusal} → LoopsSaid (StepsOf b labels) (Err x) → Err x ≡ labelled_of b labels
      answer_refused (v, l, o, e, (out, f, i)) =
          sym (labelled_checked b labels W B long (fails_loop reached (acyclic W C none) o e f) ∙ i (loops_of b labels))
