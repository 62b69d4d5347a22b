-- A wrong button spoils the run (document 02, C-15), proved.
use Prim.Native.Nat.{ℕ}
use mathlib.Core.Path.{◌≡◌, refl, ap, ◌∙◌}
use mathlib.Core.Logic.{◌↔◌}
use mathlib.Core.Bool.{false}
use mathlib.Core.List.{List, [], ◌∷◌, ◌++◌, map}
use native.Mathlib.Omega.{arith}
use Rattle.theory.specs.Events.{Call, event, taken, not_possible, Answer, answer, refused_53, event_rule}
use Rattle.theory.specs.Events as events
use Rattle.theory.specs.Runs.{run_fresh, kept_fresh}
use Rattle.theory.specs.Spoiling.{IsNotPossible}
use Rattle.theory.proofs.Followers.{one_answers}
use Rattle.theory.proofs.Runs.{chart_answers}
use Rattle.theory.proofs.Spoiling.{answers_exactly, exactly_written}
use Rattle.report.specs.declared.Numbers.{Numbers}
use Rattle.std.specs.Prelude.{Ok}
use Rattle.report.specs.declared.Response.TheVariants.{NotPossible, Spoilt, Taken}
use Rattle.bits.specs.Bits.{Bytes}
use Rattle.chart.specs.Bodies.{WellFormed}
use Rattle.chart.specs.Systems.{system_of, machine_of}
use Rattle.follower.specs.FollowerAnswers.{holds_state}
use Rattle.follower.specs.FollowerAnswers as answers
use Rattle.follower.specs.WayAnswers.{StatePasses}
use Rattle.follower.proofs.Calls.{bytes_back}
use Rattle.promises.specs.Demand3.{rule_numbers}
use Rattle.promises.specs.Spoiling.{OfAnEvent, SaysSpoilt, SaysNotPossible, SpoiltUntilRestart}
use Rattle.promises.proofs.Follower.{lent_numbers}
use Rattle.promises.proofs.Demand3.{gives}

-- AN EVENT by the numbers
pub of_an_event : (b s : List ℕ) → Bytes s → StatePasses b s → (a : ℕ) → OfAnEvent b s a
of_an_event b s D P a = record {
  on_spoilt = λ u.
      let (n, t) = (lent_numbers b s D (event a) _ _).1
      (record { answer = (Ok Spoilt); meant = holds_state P.long (answers.stays P.chart P.fits u); numbered = refl }) in
      (n, t ∙ bytes_back s P.long);
  spoils = λ u o end n h. (lent_numbers b s D (event a) _ _).1
      (record { answer = Ok (NotPossible end n); meant = holds_state P.long (answers.spoils P.chart P.fits u o h); numbered = refl });
  goes = λ u o g G m e end n h.
      let (k, t) = (lent_numbers b s D (event a) _ _).1
      (record { answer = Ok (Taken end n); meant = holds_state P.long (answers.goes P.chart P.fits u o G e m h); numbered = refl }) in
      (k, t ∙ ap (λ (x : ℕ). g.set ++ (x ∷ [])) m);
}

-- WHEN "SPOILT" IS ANSWERED. The numbers say as much as the rule's answers
spoilt_same : (x : Answer) → (x ≡ events.spoilt) ↔ SaysSpoilt (rule_numbers x)
spoilt_same x = ((λ e. ap rule_numbers e), from x)
  where
    from : (x : Answer) → SaysSpoilt (rule_numbers x) → x ≡ events.spoilt
    from (answer taken end n) e = let z : ◌≡◌ {A = ℕ} 1 2 = ap (λ (k : Numbers). k.p) e in absurd (omega arith)
    from (answer not_possible end n) e = let z : ◌≡◌ {A = ℕ} 0 2 = ap (λ (k : Numbers). k.p) e in absurd (omega arith)
    from events.spoilt e = refl
    from refused_53 e = let z : ◌≡◌ {A = ℕ} 53 0 = ap (λ (k : Numbers). k.n) e in absurd (omega arith)

not_possible_same : (x : Answer) → IsNotPossible x ↔ SaysNotPossible (rule_numbers x)
not_possible_same x = ((λ (end, n, e). (_, n, ap rule_numbers e)), from x)
  where
    from : (x : Answer) → SaysNotPossible (rule_numbers x) → IsNotPossible x
    from (answer taken end n) (q, r, e) = let z : ◌≡◌ {A = ℕ} 1 0 = ap (λ (k : Numbers). k.p) e in absurd (omega arith)
    from (answer not_possible end n) (q, r, e) = (end, n, refl)
    from events.spoilt (q, r, e) = let z : ◌≡◌ {A = ℕ} 2 0 = ap (λ (k : Numbers). k.p) e in absurd (omega arith)
    from refused_53 (q, r, e) = let z : ◌≡◌ {A = ℕ} 53 0 = ap (λ (k : Numbers). k.n) e in absurd (omega arith)

pub spoilt_until_restart : (b : List ℕ) → WellFormed b → (cs : List Call) → SpoiltUntilRestart b cs
spoilt_until_restart b W cs =
    let given = chart_answers _ _ event_rule false cs in
    record {
      answers = map rule_numbers (run_fresh event_rule (machine_of b) false cs);
      spoilt = kept_fresh event_rule (machine_of b) false cs;
      gives = gives W (λ zs mark a. one_answers event_rule (system_of b) a given);
      exactly = exactly_written rule_numbers spoilt_same not_possible_same _ (answers_exactly given);
    }
