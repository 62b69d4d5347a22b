-- The chart of a loop: its transitions by cases, its body, and L1, L2, L3 by reachability and cycles.
use mathlib.Core.Path.{◌≡◌, refl, subst}
use mathlib.Core.Logic.{◌≢◌, ◌⊎◌, inl, inr, ⊎_elim, ◌↔◌}
use Prim.Native.Nat.{ℕ, ◌<◌}
use Rattle.theory.specs.Paths.{Edges, Star, here, step, Plus, Endless, Returns, Avoid, Straying}
use Rattle.theory.specs.LoopCharts.{Round, entry, other, LoopChart, Reached, Stray}
use Rattle.theory.proofs.Paths.{star_map, star_snoc, plus_map, endless_reach, plus_star, plus_of, plus_first, star_cases}
use Rattle.theory.proofs.Paths.{star_apart, last_visit, not_avoid}
use Rattle.theory.proofs.Cycles.{L1_iff, L2_iff}

module _ {v : ℕ} {Entry : ℕ → Type 0} {Other : Edges} where
  -- what a transition of the loop's chart is, by where it begins
  pub at_start : {u w : ℕ} → u ≡ v → Round v Entry Other u w → Entry w
  at_start h (entry e) = e
  at_start h (other g e) = absurd (g h)

  pub off_start : {u w : ℕ} → u ≢ v → Round v Entry Other u w → Other u w
  off_start h (entry e) = absurd (h refl)
  off_start h (other g e) = e

  after : {w : ℕ} → (x : ℕ) × Round v Entry Other v x × Star (Avoid v (Round v Entry Other)) x w → Reached v Entry Other w
  after (x, e, p) = (x, at_start refl e, star_map (λ a b c. (c.0, off_start c.0 c.1)) p)

  -- the body of a loop is what its entries, then its other transitions, reach, stopping at v
  pub body_iff : (w : ℕ) → Plus (Round v Entry Other) v w ↔ Reached v Entry Other w
  body_iff w = (to, λ (x, e, p). plus_of (entry e) (star_map (λ a b c. other c.0 c.1) p))
    where
      to : Plus (Round v Entry Other) v w → Reached v Entry Other w
      to p = let (x, e, q) = plus_first p in elim (last_visit v q) [ inl r ↦ after (x, e, r) | inr r ↦ after r ]

  stray_to : Straying (Round v Entry Other) v → Stray v Entry Other
  stray_to (w, p, c) =
      let h : w ≢ v = λ e. not_avoid (subst (λ (x : ℕ). Plus (Avoid v (Round v Entry Other)) x w) e c) in
      (w, h, (body_iff w).0 (star_apart p h), plus_map (λ a b q. (q.0, off_start q.0 q.1)) c)

  stray_from : Stray v Entry Other → Straying (Round v Entry Other) v
  stray_from (w, h, p, c) = (w, plus_star ((body_iff w).1 p), plus_map (λ a b q. (q.0, other q.0 q.1)) c)

  -- L3: the entries do not reach the end
  pub round_L3 : v ≢ 0 → Star (Round v Entry Other) v 0 ↔ Reached v Entry Other 0
  round_L3 h = (
    (λ p. elim (star_cases p) [ inl e ↦ absurd (h e) | inr q ↦ (body_iff 0).0 q ]),
    (λ r. plus_star ((body_iff 0).1 r)),
  )

  module _ (size : ℕ) (entry_below : (w : ℕ) → Entry w → w < size) (other_below : (u w : ℕ) → Other u w → w < size) where
    pub round_below : (u w : ℕ) → Round v Entry Other u w → w < size
    round_below u w (entry e) = entry_below w e
    round_below u w (other g e) = other_below u w e

    -- L1: the entries reach v again, or a cycle that does not go through v
    pub round_L1 : Endless (Round v Entry Other) v ↔ (Reached v Entry Other v ⊎ Stray v Entry Other)
    round_L1 = (
      (λ p. ⊎_elim (λ c. inl ((body_iff v).0 c)) (λ s. inr (stray_to s)) ((L1_iff size round_below v).0 p)),
      (λ c. (L1_iff size round_below v).1 (⊎_elim (λ r. inl ((body_iff v).1 r)) (λ s. inr (stray_from s)) c)),
    )

    -- L2: the entries reach no cycle that does not go through v
    pub round_L2 : Returns (Round v Entry Other) v ↔ (¬ Stray v Entry Other)
    round_L2 = (
      (λ back s. (L2_iff size round_below v).0 back (stray_from s)),
      (λ none. (L2_iff size round_below v).1 (λ s. none (stray_to s))),
    )

-- entries and other transitions that are more
pub round_map : {v : ℕ} {Entry Entry' : ℕ → Type 0} {Other Other' : Edges} → ((w : ℕ) → Entry w → Entry' w) → ((u w : ℕ) → Other u w → Other' u w) → (u w : ℕ) → Round v Entry Other u w → Round v Entry' Other' u w
round_map f g u w (entry e) = entry (f w e)
round_map f g u w (other h e) = other h (g u w e)

-- TWO CHARTS THAT AGREE ON WHAT v REACHES are loop charts together
module _ {E F : Edges} {v : ℕ} (agree : (u w : ℕ) → Star E v u → E u w ↔ F u w) where
  pub reach : {u w : ℕ} → Star E v u → Star F u w → Star E v w
  reach p here = p
  reach p (step e q) = reach (star_snoc p ((agree _ _ p).1 e)) q

  endless_to : Endless E v → Endless F v
  endless_to p = record { at = p.at; first = p.first; next = λ k. (agree _ _ (endless_reach p k)).0 (p.next k) }

  endless_back : Endless F v → Endless E v
  endless_back p = record { at = p.at; first = p.first; next = λ k. (agree _ _ (reach here (endless_reach p k))).1 (p.next k) }

  pub loop_chart_agree : LoopChart E v → LoopChart F v
  unfolding endless_back
  loop_chart_agree c = record { L1 = endless_to c.L1; L2 = λ p. c.L2 (endless_back p); L3 = λ p. c.L3 (reach here p) }
