-- A list of removals over bytes, beside a chart and labels that pass: each answer is the plain set's, and after each
-- call the bytes stand for the set.
use Prim.Native.Nat.{ℕ}
use mathlib.Core.Path.{◌≡◌, refl, sym, ◌∙◌, ap₂}
use mathlib.Core.Logic.{◌≢◌}
use mathlib.Core.List.{List, ◌∷◌, map}
use lib.ListN.{length}
use Rattle.theory.specs.Charts.{Formed, Listed, Loop}
use Rattle.theory.specs.Checks.{Passed}
use Rattle.theory.specs.Standing.{Loops}
use Rattle.theory.specs.Removals.{Answer, done, refused_51, refused_52, Plain, left_loops, PlainAll}
use Rattle.theory.proofs.Removals.{rule_of, left_loops_are}
use Rattle.std.specs.Prelude.{Ok}
use Rattle.bits.specs.Bits.{Bytes}
use Rattle.chart.specs.Bodies.{vertices_of, count_of, WellFormed}
use Rattle.chart.specs.Steps.{StepsOf}
use Rattle.chart.specs.Standing.{StandsFor}
use Rattle.chart.proofs.Relations.{steps_formed, steps_listed}
use Rattle.chart.proofs.Standing.{only?, stands_agree, stands_same, taken_stands}
use Rattle.elimination.specs.Removals.{removed_as, removal_of, left_of, answers_of, left_after}
use Rattle.elimination.specs.RemovalAnswers.{Fits}
use Rattle.elimination.proofs.Removals.{err_not_ok, removal_ruled, left_kept, done_leaves}

-- a chart and labels that pass: 20, 21 and 30, and 32 to 35
pub record Passing (b labels : List ℕ) : Type 0 where
  pub bytes : Bytes labels
  pub body : WellFormed b
  pub each : length labels ≡ count_of b
  pub passed : Passed (StepsOf b labels)

module _ {b labels : List ℕ} (c : Passing b labels) where
  pub formed : Formed (vertices_of b) (StepsOf b labels)
  formed = steps_formed b labels c.body

  pub listed : Listed 256 (StepsOf b labels)
  listed = steps_listed b labels c.bytes

  fits : {standing : List ℕ} {X : Loops} → StandsFor b labels standing X → Fits b labels standing
  fits h = record { formed = c.body; each = c.each; marked = record { long = h.long; marks = h.marks } }

  -- ONE CALL, where the bytes stand for the loops of X
  module _ {standing : List ℕ} {X : Loops} (loops : (v l : ℕ) → X v l → Loop (StepsOf b labels) v l)
      (h : StandsFor b labels standing X) (v l : ℕ) where
    -- it answers what the plain set does
    pub call_answers : {a : Answer} → Plain (StepsOf b labels) X v l a → removal_of b labels v l standing ≡ removed_as a
    call_answers p = removal_ruled b labels v l standing c.bytes (fits h) (rule_of formed c.passed loops (stands_agree h) v l p)

    -- a refusal keeps the bytes
    refusal_stands : {a : Answer} → Plain (StepsOf b labels) X v l a → removed_as a ≢ (Ok tt)
        → StandsFor b labels (left_of b labels v l standing) X
    refusal_stands p n = rw (left_kept b labels v l standing (λ e. n (sym (call_answers p) ∙ e))) h

    -- and its bytes stand for what is left of the set
    pub call_stands : (a : Answer) → Plain (StepsOf b labels) X v l a
        → StandsFor b labels (left_of b labels v l standing) (left_loops a v l X)
    call_stands done (Plain.goes x n) =
        taken_stands (only? v l) (done_leaves b labels v l standing (call_answers (Plain.goes x n)))
        (λ u m (e, f). rw f (loops v l x).0) h
    call_stands (refused_51 p q) r = refusal_stands r err_not_ok
    call_stands (refused_52 p q k) r = refusal_stands r err_not_ok

  -- THE LIST: the answers, and what stands after it
  pub calls_agree : {X Y : Loops} {standing : List ℕ} → ((v l : ℕ) → X v l → Loop (StepsOf b labels) v l)
      → StandsFor b labels standing X → {calls : List (ℕ × ℕ)} {ys : List Answer} → PlainAll (StepsOf b labels) X calls ys Y
      → (answers_of b labels calls standing ≡ map removed_as ys) × StandsFor b labels (left_after b labels calls standing) Y
  unfolding answers_of left_after
  calls_agree loops h PlainAll.none = (refl, h)
  calls_agree loops h (PlainAll.call {v = v} {l = l} {a = a} p same ps) =
      let left = left_loops_are formed c.passed loops (stands_agree h) v l a in
      let rest = calls_agree (λ u m y. left u m ((same u m).0 y)) (stands_same same (call_stands loops h v l a p)) ps in
      (ap₂ ◌∷◌ (call_answers loops h v l p) rest.0, rest.1)
