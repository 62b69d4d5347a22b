-- The expression's chart is bisimilar to the published rules on the expression: each vertex with what it stands for.
use Prim.Native.Nat.{ℕ, zero, suc}
use mathlib.Core.Path.{◌≡◌, refl, ap, sym, ◌∙◌}
use mathlib.Core.List.{Memᴰ}
use native.Mathlib.Omega.{arith}
use Rattle.theory.specs.Expressions.{Target, end, to}
use Rattle.theory.specs.Systems.{Bisimulation}
use Rattle.theory.specs.Rules.{Derives, by_rules, rules}
use Rattle.theory.specs.Nodes.{Node, expr, residual, meaning, Means, Tree}
use Rattle.theory.specs.Transitions.{chart}
use Rattle.theory.specs.ExpressionCharts.{transitions}
use Rattle.theory.proofs.ExpressionCharts.{residual_of_start, chart_sound, chart_complete}
use Rattle.theory.proofs.Bounds.{transition_bounds}

module _ (nd : ℕ → Node) (n : ℕ) (tree : Tree nd n) where
  -- vertex 0 alone stands for the end
  ends→ : (v : ℕ) (ξ : Target) → Means nd n v ξ → v ≡ 0 → ξ ≡ end
  ends→ v ξ r e = sym r.1 ∙ ap (meaning nd n) e

  ends← : (v : ℕ) (ξ : Target) → Means nd n v ξ → ξ ≡ end → v ≡ 0
  ends← zero ξ r e = refl
  ends← (suc k) ξ r e = let z : ◌≡◌ {A = ℕ} 0 1 = cc in absurd (omega arith)

  step→ : (v : ℕ) (ξ : Target) → Means nd n v ξ → (a t : ℕ) → Memᴰ (v, a, t) (transitions nd n) → (η : Target) × Derives ξ a η × Means nd n t η
  step→ zero ξ r a t m = absurd (omega (arith, transition_bounds nd n tree (0, a, t) m))
  step→ (suc k) ξ r a t m =
      (meaning nd n t, rw (← r.1) (by_rules (chart_sound nd n tree k a t m).1), ((transition_bounds nd n tree (suc k, a, t) m).2, refl))

  step← : (v : ℕ) {ξ η : Target} → Means nd n v ξ → {a : ℕ} → Derives ξ a η → (t : ℕ) × Memᴰ (v, a, t) (transitions nd n) × Means nd n t η
  step← zero r (by_rules s) = let z : ◌≡◌ {A = ℕ} 0 1 = cc in absurd (omega arith)
  step← (suc k) r {a} (by_rules {e = e} s) =
      let q : residual nd n k ≡ e = cc in
      let c = chart_complete nd n tree k r.0 (rw (← q) at s) in
      (c.0, c.1, ((transition_bounds nd n tree (suc k, a, c.0) c.1).2, c.2))

  module _ (root : ℕ) (last : n ≡ suc root) where
    start_means : Means nd n n (to (expr nd root))
    start_means = (omega arith, ap (meaning nd n) last ∙ ap to (residual_of_start nd n tree root last))

    pub chart_rules : Bisimulation (chart n (transitions nd n)) (rules (expr nd root)) (Means nd n)
    chart_rules = record {
      starts = start_means;
      ends = λ v ξ r. (ends→ v ξ r, ends← v ξ r);
      forth = step→;
      back = λ v ξ r a η d. step← v r d;
    }
