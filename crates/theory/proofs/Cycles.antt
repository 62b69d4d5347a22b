-- Over finitely many vertices, infinite paths are facts about cycles.
use mathlib.Core.Path.{◌≡◌}
use mathlib.Core.Logic.{◌≢◌, ◌⊎◌, inl, inr, ◌↔◌}
use Prim.Native.Nat.{ℕ, zero, suc, ◌+◌, ◌<◌}
use native.Mathlib.Omega.{arith}
use native.Mathlib.Decide.{ℕ_discrete}
use Rattle.theory.specs.Paths.{Edges, Star, Plus, last, more, Endless, Returns, Avoid, Straying}
use Rattle.theory.proofs.Paths.{star_plus, plus_snoc, not_avoid, cycle_endless, endless_star, endless_reach, stretch, last_visit, stray_endless, return_cycle}
use Rattle.theory.proofs.Search.{look_below, pigeonhole}

module _ {E : Edges} (size : ℕ) (bounded : (u w : ℕ) → E u w → w < size) where
  -- an infinite path whose first transitions are all in F goes round a cycle of F
  round_of : {F : Edges} {v : ℕ} (p : Endless E v) → ((k : ℕ) → k < size → F (p.at (suc k)) (p.at (suc (suc k)))) → (k : ℕ) × Plus F (p.at k) (p.at k)
  round_of {F} p s =
      let (i, j, l, m, e) = pigeonhole size (λ k. p.at (suc k)) (λ i l. bounded _ _ (p.next i)) in
      (suc j, rw e at (stretch {E = F} (λ k. p.at (suc k)) i j l (λ k a b. s k (omega arith))))

  -- an infinite path from v exactly where v reaches a cycle
  pub endless_iff : (v : ℕ) → Endless E v ↔ ((w : ℕ) × Star E v w × Plus E w w)
  endless_iff v = (
    (λ p. let (k, c) = round_of {F = E} p (λ k l. p.next (suc k)) in (p.at k, endless_reach p k, c)),
    (λ (w, p, c). endless_star p (cycle_endless c)),
  )

  -- an infinite path from v returns, or v reaches a cycle that does not go through v
  back_or_stray : {v : ℕ} (p : Endless E v) → ((k : ℕ) × (p.at (suc k) ≡ v)) ⊎ Straying E v
  back_or_stray {v} p = go (look_below (λ k. ℕ_discrete (p.at (suc k)) v) size)
    where
      go : ((k : ℕ) × (k < size) × (p.at (suc k) ≡ v)) ⊎ ((k : ℕ) → k < size → p.at (suc k) ≢ v) → ((k : ℕ) × (p.at (suc k) ≡ v)) ⊎ Straying E v
      go (inl (k, b, e)) = inl (k, e)
      go (inr h) = let (k, c) = round_of {F = Avoid v E} p (λ k l. (h k l, p.next (suc k))) in inr (p.at k, endless_reach p k, c)

  stray_not_back : {v : ℕ} → Straying E v → ¬ Returns E v
  stray_not_back {v} (w, p, c) = go (last_visit v p)
    where
      go : Star (Avoid v E) v w ⊎ ((x : ℕ) × E v x × Star (Avoid v E) x w) → ¬ Returns E v
      go (inl q) = absurd (not_avoid (star_plus q c))
      go (inr (x, e, q)) = stray_endless e (endless_star q (cycle_endless c))

  avoid_plus : {v u w : ℕ} → Plus (Avoid v E) u w → Plus E u w
  avoid_plus (last e) = last e.1
  avoid_plus (more e p) = more e.1 (avoid_plus p)

  -- L1: v is on a cycle, or reaches one that does not go through v
  pub L1_iff : (v : ℕ) → Endless E v ↔ (Plus E v v ⊎ Straying E v)
  L1_iff v = (
    (λ p. elim (back_or_stray p) [ inl (k, e) ↦ inl (return_cycle p k e) | inr s ↦ inr s ]),
    (λ c. elim c [ inl q ↦ cycle_endless q | inr (w, q, r) ↦ endless_star q (cycle_endless (avoid_plus r)) ]),
  )

  -- L2: v reaches no cycle that does not go through v
  pub L2_iff : (v : ℕ) → Returns E v ↔ (¬ Straying E v)
  L2_iff v = (
    (λ back s. stray_not_back s back),
    (λ none p. elim (back_or_stray p) [ inl r ↦ r | inr s ↦ absurd (none s) ]),
  )

-- WITHOUT A CYCLE: a law that holds of a vertex if it holds of all that its transitions lead to
turned : {E : Edges} {u w : ℕ} → Plus (λ x y. E y x) u w → Plus E w u
turned (last e) = last e
turned (more e p) = plus_snoc (turned p) e

-- x in front of a walk
abbrev front : ℕ → (ℕ → ℕ) → ℕ → ℕ
front x g zero = x
front x g (suc i) = g i

module _ {E : Edges} (size : ℕ) (bounded : (u w : ℕ) → E u w → w < size) (none : (w : ℕ) → ¬ Plus E w w) where
  -- g 0, g 1, .. is a walk back along k transitions
  abbrev Walk : ℕ → (ℕ → ℕ) → Type 0
  Walk k g = (i : ℕ) → i < k → E (g (suc i)) (g i)

  no_long_walk : (k : ℕ) (g : ℕ → ℕ) → Walk k g → ¬ (size < k)
  no_long_walk k g h l =
      let (i, j, a, b, e) = pigeonhole size g (λ i m. bounded _ _ (h i (omega arith))) in
      none (g j) (turned (rw e at (stretch {E = λ x y. E y x} g i j a (λ m p q. h m (omega arith)))))

  longer : (k : ℕ) (g : ℕ → ℕ) (x : ℕ) → E (g 0) x → Walk k g → Walk (suc k) (front x g)
  longer k g x e h zero l = e
  longer k g x e h (suc i) l = h i (omega arith)

  module _ (P : ℕ → Type 0) (at_vertex : (w : ℕ) → ((x : ℕ) → E w x → P x) → P w) where
    along : (f k : ℕ) (g : ℕ → ℕ) → Walk k g → size < f + k → P (g 0)
    along zero k g h l = absurd (no_long_walk k g h (omega arith))
    along (suc f) k g h l = at_vertex (g 0) (λ x e. along f (suc k) (front x g) (longer k g x e h) (omega arith))

    pub each_vertex : (w : ℕ) → P w
    each_vertex w = along (suc size) 0 (λ i. w) (λ i l. absurd (omega arith)) (omega arith)
