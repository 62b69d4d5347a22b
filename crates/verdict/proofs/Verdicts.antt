-- The verdict: accepted exactly where no check fails, refused exactly at the place of the one that does.
use mathlib.Core.Path.{◌≡◌, refl, sym, ◌∙◌, ap}
use mathlib.Core.Logic.{◌≢◌, ◌↔◌}
use mathlib.Core.List.{List}
use Prim.Native.Nat.{ℕ}
use native.Mathlib.Omega.{arith}
use Rattle.std.specs.Prelude.{Result, Ok, Err}
use Rattle.report.specs.Stages.{after}
use Rattle.report.specs.declared.Refusal.{Refusal}
use Rattle.report.specs.declared.Accepted.{Accepted}
use Rattle.report.specs.Numbers.{accepted_with}
use Rattle.chart.specs.Bodies.{vertices_of, count_of}
use Rattle.chart.specs.Checks as chart
use Rattle.expression.specs.Table as expression
use Rattle.expression.specs.Body.{body_of}
use Rattle.witness.specs.Labellings.{labelled_of}
use Rattle.bisimulation.specs.Relations.{relation_of}
use Rattle.verdict.specs.Files.{records_of}
use Rattle.verdict.specs.Verdicts.{nodes_in, chart_in, labels_in, relation_in, on_loops, accepted, drawn_verdict, verdict_of, Fails, records_fail, nodes_fail, chart_fails, labels_fail, relation_fails}

apart : {v t l : ℕ} {p : Refusal} → Err p ≢ Ok (accepted_with v t l)
apart e = let z : ◌≡◌ {A = ℕ} 0 1 = cc in omega arith

module _ (f : List ℕ) where
  -- ACCEPTED exactly where no check fails, with the counts
  pub accepted_iff : (v t l : ℕ) → (verdict_of f ≡ Ok (accepted_with v t l))
      ↔ ((records_of f ≡ Ok tt) × (expression.check_of (nodes_in f) ≡ Ok tt) × (chart.check_of (chart_in f) ≡ Ok tt)
      × (labelled_of (chart_in f) (labels_in f) ≡ Ok l) × (relation_of (body_of (nodes_in f)) (chart_in f) (relation_in f) ≡ Ok tt)
      × (v ≡ vertices_of (chart_in f)) × (t ≡ count_of (chart_in f)))
  unfolding verdict_of
  accepted_iff v t l = (
    go (records_of f) (expression.check_of (nodes_in f)) (chart.check_of (chart_in f)) (labelled_of (chart_in f) (labels_in f))
        (relation_of (body_of (nodes_in f)) (chart_in f) (relation_in f)),
    λ (a, b, c, d, e, i, j). rw (a, b, c, d, e, i, j),
  )
    where
      counts : Result Accepted Refusal → Accepted
      counts (Ok a) = a
      counts (Err p) = accepted_with 0 0 0

      go : (a b c : Result Unit Refusal) (d : Result ℕ Refusal) (e : Result Unit Refusal)
          → after a (after b (after c (on_loops d (λ x. after e (accepted (chart_in f) x))))) ≡ Ok (accepted_with v t l)
          → (a ≡ Ok tt) × (b ≡ Ok tt) × (c ≡ Ok tt) × (d ≡ Ok l) × (e ≡ Ok tt)
          × (v ≡ vertices_of (chart_in f)) × (t ≡ count_of (chart_in f))
      go (Err p) b c d e h = absurd (apart h)
      go (Ok _) (Err p) c d e h = absurd (apart h)
      go (Ok _) (Ok _) (Err p) d e h = absurd (apart h)
      go (Ok _) (Ok _) (Ok _) (Err p) e h = absurd (apart h)
      go (Ok _) (Ok _) (Ok _) (Ok n) (Err p) h = absurd (apart h)
      go (Ok _) (Ok _) (Ok _) (Ok n) (Ok _) h =
          let e = ap counts h in (
            refl,
            refl,
            refl,
            ap (λ (k : ℕ). Ok k) (ap (λ (a : Accepted). a.loops) e),
            refl,
            sym (ap (λ (a : Accepted). a.vertices) e),
            sym (ap (λ (a : Accepted). a.transitions) e),
          )

  refused_fails : {p : Refusal} → verdict_of f ≡ Err p → Fails f p
  unfolding verdict_of
  refused_fails {p} =
      go (records_of f) (expression.check_of (nodes_in f)) (chart.check_of (chart_in f)) (labelled_of (chart_in f) (labels_in f))
      (relation_of (body_of (nodes_in f)) (chart_in f) (relation_in f)) refl refl refl refl refl
    where
      go : (a b c : Result Unit Refusal) (d : Result ℕ Refusal) (e : Result Unit Refusal)
          → records_of f ≡ a → expression.check_of (nodes_in f) ≡ b → chart.check_of (chart_in f) ≡ c
          → labelled_of (chart_in f) (labels_in f) ≡ d → relation_of (body_of (nodes_in f)) (chart_in f) (relation_in f) ≡ e
          → after a (after b (after c (on_loops d (λ x. after e (accepted (chart_in f) x))))) ≡ Err p → Fails f p
      go (Err q) b c d e i j k l m h = records_fail (cc)
      go (Ok _) (Err q) c d e i j k l m h = nodes_fail i (cc)
      go (Ok _) (Ok _) (Err q) d e i j k l m h = chart_fails i j (cc)
      go (Ok _) (Ok _) (Ok _) (Err q) e i j k l m h = labels_fail i j k (cc)
      go (Ok _) (Ok _) (Ok _) (Ok n) (Err q) i j k l m h = relation_fails i j k l (cc)
      go (Ok _) (Ok _) (Ok _) (Ok n) (Ok _) i j k l m h = absurd (apart (sym h))

  pub fails_refused : {p : Refusal} → Fails f p → verdict_of f ≡ Err p
  unfolding verdict_of
  fails_refused (records_fail a) = rw a
  fails_refused (nodes_fail a b) = rw (a, b)
  fails_refused (chart_fails a b c) = rw (a, b, c)
  fails_refused (labels_fail a b c d) = rw (a, b, c, d)
  fails_refused (relation_fails a b c d e) = rw (a, b, c, d, e)

  -- where the first three stages pass, the last two answer
  pub comes_to_drawn : records_of f ≡ Ok tt → expression.check_of (nodes_in f) ≡ Ok tt → chart.check_of (chart_in f) ≡ Ok tt
      → verdict_of f ≡ drawn_verdict (nodes_in f) (chart_in f) (labels_in f) (relation_in f)
  unfolding verdict_of
  comes_to_drawn a b c = rw (a, b, c)

  -- REFUSED exactly where a check fails, at its place
  pub refused_iff : (p : Refusal) → (verdict_of f ≡ Err p) ↔ Fails f p
  refused_iff p = (refused_fails, fails_refused)

  -- no two checks answer at once
  pub one_place : {p q : Refusal} → Fails f p → Fails f q → p ≡ q
  one_place a b = cc (fails_refused a, fails_refused b)

  -- accepted with some counts exactly where no check fails
  pub accepted_none : ((v : ℕ) × (t : ℕ) × (l : ℕ) × (verdict_of f ≡ Ok (accepted_with v t l))) ↔ ((p : Refusal) → Fails f p → ⊥)
  accepted_none = (λ (v, t, l, e) p h. apart (sym (fails_refused h) ∙ e), go (verdict_of f) refl)
    where
      go : (x : Result Accepted Refusal) → verdict_of f ≡ x → ((p : Refusal) → Fails f p → ⊥) → (v : ℕ) × (t : ℕ) × (l : ℕ) × (verdict_of f ≡ Ok (accepted_with v t l))
      go (Ok a) e n = (a.vertices, a.transitions, a.loops, e)
      go (Err p) e n = absurd (n p (refused_fails e))
