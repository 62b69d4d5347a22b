-- 20 and 21 are all that the check of a chart body refuses.
use mathlib.Core.Path.{◌≡◌, sym, subst}
use mathlib.Core.Logic.{◌⊎◌, inl, inr, ⊎_elim, ◌↔◌}
use mathlib.Core.Bool.{Bool, true, false, cond}
use mathlib.Core.List.{List}
use Prim.Native.Nat.{ℕ, zero, suc}
use native.Mathlib.Omega.{arith}
use Rattle.std.specs.Prelude.{Err}
use Rattle.report.specs.declared.Refusal.{Refusal}
use Rattle.report.specs.declared.Refusal.TheVariants.{ChartHeader, Transition}
use Rattle.theory.specs.Least.{Least}
use Rattle.chart.specs.Bodies.{count_of, HeaderFits, Faulty}
use Rattle.chart.specs.Checks.{header_ok, ok_at, first_bad, check_of}
use Rattle.chart.specs.Refusals.{ChartRefused, other_header, faulty_at}
use Rattle.chart.proofs.Checks.{check_20, check_21}

module _ (b : List ℕ) where
  first_place_lem : {p : Refusal} (i n : ℕ) → first_bad b i n ≡ Err p → (k : ℕ) × (p ≡ Transition k)
  unfolding first_bad
  first_place_lem i zero e = let z : ◌≡◌ {A = ℕ} 0 1 = cc in absurd (omega arith)
  first_place_lem {p} i (suc n) e = go (ok_at b i) (first_place_lem (suc i) n) e
    where
      go : (x : Bool) → (first_bad b (suc i) n ≡ Err p → (k : ℕ) × (p ≡ Transition k))
          → cond x (first_bad b (suc i) n) (Err (Transition i)) ≡ Err p → (k : ℕ) × (p ≡ Transition k)
      go true next e = next e
      go false next e = (i, cc)

  pub refused_places : {p : Refusal} → check_of b ≡ Err p → (p ≡ ChartHeader) ⊎ ((i : ℕ) × (p ≡ Transition i))
  unfolding check_of
  refused_places {p} e = go (header_ok b) e
    where
      go : (x : Bool) → cond x (first_bad b 0 (count_of b)) (Err ChartHeader) ≡ Err p
          → (p ≡ ChartHeader) ⊎ ((i : ℕ) × (p ≡ Transition i))
      go true e = inr (first_place_lem 0 (count_of b) e)
      go false e = inl (cc)

  -- so what holds of each of the two, by what it says, holds of every refusal
  pub refused_cases : (A : Refusal → Type 0) → (¬ HeaderFits b → A ChartHeader)
      → ((i : ℕ) → HeaderFits b → Least (Faulty b) i → A (Transition i)) → (p : Refusal) → check_of b ≡ Err p → A p
  refused_cases A f g p e =
      ⊎_elim
      (λ q. subst A (sym q) (f ((check_20 b).0 (rw q at e))))
      (λ (i, q). let (h, l) = (check_21 b i).0 (rw q at e) in subst A (sym q) (g i h l))
      (refused_places e)

  -- THE CHECK REFUSES exactly what 20 and 21 say
  pub chart_refused : (p : Refusal) → (check_of b ≡ Err p) ↔ ChartRefused b p
  chart_refused p = (refused_cases (ChartRefused b) other_header (λ i. faulty_at) p, refuses)
    where
      refuses : {p : Refusal} → ChartRefused b p → check_of b ≡ Err p
      refuses (other_header h) = (check_20 b).1 h
      refuses (faulty_at h f) = (check_21 b _).1 (h, f)
