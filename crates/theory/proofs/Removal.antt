-- Taking out one loop of a chart that passed, where the loops of a set X remain: claims A, B and C.
use mathlib.Core.Path.{refl, subst}
use mathlib.Core.Logic.{◌≢◌, ◌⊎◌, inl, inr, ◌↔◌, Ne-symm}
use Prim.Native.Nat.{ℕ, ◌<◌}
use native.Mathlib.Omega.{arith}
use Rattle.theory.specs.Paths.{Star, here, Plus, Endless, Avoid, Returns}
use Rattle.theory.specs.Charts.{Steps, Formed, Loop}
use Rattle.theory.specs.LoopCharts.{InLoop, Around, entry, other, LoopChart}
use Rattle.theory.specs.Checks.{Passed}
use Rattle.theory.specs.Standing.{Loops, Standing, Inside}
use Rattle.theory.proofs.Paths.{plus_star, star_map, star_apart, not_avoid, stray_endless, endless_map, endless_star}
use Rattle.theory.proofs.Paths.{endless_reach, cycle_endless, last_visit}
use Rattle.theory.proofs.Rounds.{round_map, reach, loop_chart_agree}
use Rattle.theory.proofs.Checks.{passed_loop_chart}

module _ {size : ℕ} {S : Steps} (formed : Formed size S) (passed : Passed S) (X : Loops) (loops : (v l : ℕ) → X v l → Loop S v l) (v l : ℕ) (mine : X v l) where
  -- the loop's own transitions stand
  own : (u w : ℕ) → InLoop S v l u w → Around (Standing S X) v l u w
  own = round_map (λ w e. (e, inr mine)) (λ u w e. (0, (e, inl refl)))

  -- L1 holds
  pub taken_L1 : Endless (Around (Standing S X) v l) v
  taken_L1 = endless_map own (cycle_endless (passed.loops v l (loops v l mine)).c33)

  -- the path of a loop that starts inside never meets v
  inner_avoids : {w m : ℕ} → X w m → w ≢ v → Plus (InLoop S v l) v w → (u : ℕ) → Star (InLoop S w m) w u → u ≢ v
  inner_avoids {w} {m} x h p u q e =
      let outer : m < l = (passed.loops v l (loops v l mine)).c35 w h (plus_star p) m (loops w m x) in
      let inner : l < m = (passed.loops w m (loops w m x)).c35 v (Ne-symm h) (subst (Star (InLoop S w m) w) e q) l (loops v l mine) in
      omega arith

  inner_step : {w m : ℕ} → X w m → (u y : ℕ) → u ≢ v → InLoop S w m u y → Around (Standing S X) v l u y
  inner_step x u y g (entry e) = other g (_, (e, inr x))
  inner_step x u y g (other k e) = other g (0, (e, inl refl))

  inner_endless : {w m : ℕ} → X w m → w ≢ v → Plus (InLoop S v l) v w → Endless (Avoid v (Around (Standing S X) v l)) w
  inner_endless {w} {m} x h p =
      let q : Endless (InLoop S w m) w = cycle_endless (passed.loops w m (loops w m x)).c33 in
      let a : (k : ℕ) → q.at k ≢ v = λ k. inner_avoids x h p (q.at k) (endless_reach q k) in
      record { at = q.at; first = q.first; next = λ k. (a k, inner_step x _ _ (a k) (q.next k)) }

  -- claim B: from v to the inner loop, and round it for ever
  pub inside_not_L2 : Inside S X v l → ¬ Returns (Around (Standing S X) v l) v
  inside_not_L2 (w, m, x, h, p) = go (last_visit v (plus_star p))
    where
      go : Star (Avoid v (InLoop S v l)) v w ⊎ ((y : ℕ) × InLoop S v l v y × Star (Avoid v (InLoop S v l)) y w) → ¬ Returns (Around (Standing S X) v l) v
      go (inl q) = absurd (not_avoid (star_apart q h))
      go (inr (y, e, q)) = stray_endless (own v y e) (endless_star (star_map (λ u z c. (c.0, own u z c.1)) q) (inner_endless x h p))

  module _ (none : ¬ Inside S X v l) where
    -- at each body vertex only the loop's own transitions stand
    same_step : {u w : ℕ} → Star (InLoop S v l) v u → Around (Standing S X) v l u w → InLoop S v l u w
    same_step p (entry e) = entry e.0
    same_step p (other h (m, (e, inl z))) = other h (rw z at e)
    same_step {u} p (other h (m, (e, inr x))) = absurd (none (u, m, x, h, star_apart p h))

    -- so the loop's chart is the same on what v reaches
    same_chart : (u w : ℕ) → Star (InLoop S v l) v u → InLoop S v l u w ↔ Around (Standing S X) v l u w
    same_chart u w p = (own u w, same_step p)

    -- claim C
    pub taken_loop_chart : LoopChart (Around (Standing S X) v l) v
    taken_loop_chart = loop_chart_agree same_chart (passed_loop_chart formed passed v l (loops v l mine))

    -- what stands reaches nothing but the loop's body
    pub taken_reaches : {w : ℕ} → Star (Around (Standing S X) v l) v w → Star (InLoop S v l) v w
    taken_reaches = reach same_chart here

  -- the loop can be taken out exactly when no loop of X starts inside it
  pub takeable_iff : LoopChart (Around (Standing S X) v l) v ↔ (¬ Inside S X v l)
  takeable_iff = ((λ c i. inside_not_L2 i c.L2), taken_loop_chart)
