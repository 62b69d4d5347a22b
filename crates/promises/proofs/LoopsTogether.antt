-- Several loops out together (document 02, C-12), by the numbers, proved.
use mathlib.Core.Path.{◌≡◌, ap, subst}
use mathlib.Core.List.{List}
use Prim.Native.Nat.{ℕ}
use Rattle.theory.specs.Charts.{Loop}
use Rattle.theory.specs.Standing.{Loops}
use Rattle.theory.specs.Orders.{Listing}
use Rattle.std.specs.Prelude.{Ok}
use Rattle.report.specs.Numbers.{accepted_with}
use Rattle.report.specs.Numbers.{four, done_numbers}
use Rattle.report.proofs.NumberLaws.{one_removal, only_57}
use Rattle.bits.specs.Bits.{Bytes}
use Rattle.chart.specs.Standing.{StandsFor}
use Rattle.elimination.specs.RemovalAnswers.{Fits}
use Rattle.elimination.specs.Together.{loops_of, together_of}
use Rattle.elimination.proofs.TogetherCalls.{together_says, together_singles, together_stands, empty_together, passing_not_57}
use Rattle.verdict.specs.Verdicts.{chart_in, labels_in, verdict_of}
use Rattle.promises.specs.Check.{steps_in}
use Rattle.promises.specs.LoopsTogether.{TogetherByNumbers, InEveryOrder, EmptyDone, OverAccepted}
use Rattle.promises.proofs.Numbered.{by_numbers}
use Rattle.promises.proofs.Demand3.{passing}

module _ (b labels loops standing : List ℕ) (B : Bytes labels) where
  pub together_numbers_lem : TogetherByNumbers b labels loops standing
  together_numbers_lem = by_numbers done_numbers (together_says b labels loops standing B)

  -- A LIST THAT IS DONE leaves the same bytes as its loops one by one, in every order, none refused
  pub in_every_order : done_numbers (together_of b labels loops standing) ≡ four 0 0 0 0 → InEveryOrder b labels loops standing
  in_every_order e ds p = together_singles b labels B loops standing (one_removal _ ((Ok tt)) e) p

-- THE EMPTY LIST is done, and leaves every byte
pub empty_done : {b labels standing : List ℕ} → Bytes labels → Fits b labels standing → EmptyDone b labels standing
empty_done {b} {labels} {standing} B f =
    let (e, t) = empty_together b labels standing B f in (ap done_numbers e, t)

-- OVER AN ACCEPTED FILE, where the bytes stand for a plain set of its loops
pub over_accepted : (f : List ℕ) → Bytes f → {v t l : ℕ} → verdict_of f ≡ Ok (accepted_with v t l) → {X : Loops}
    → ((u m : ℕ) → X u m → Loop (steps_in f) u m) → {standing : List ℕ} → StandsFor (chart_in f) (labels_in f) standing X
    → OverAccepted f X standing
over_accepted f bytes accepted {X} of_file h = let c = passing f bytes accepted in record {
  never_57 = λ loops e. passing_not_57 c of_file h loops _ (only_57 _ e);
  keeps = λ loops t (e, z). subst
      (λ (s : List ℕ). StandsFor (chart_in f) (labels_in f) s (λ v l. X v l × ¬ Listing (loops_of loops) v l)) z
      (together_stands (chart_in f) (labels_in f) loops c.bytes h (one_removal _ ((Ok tt)) e));
}
