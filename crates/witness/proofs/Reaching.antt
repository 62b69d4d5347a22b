-- What the code's searches find: what the start reaches, what follows a branch.
use mathlib.Core.Path.{◌≡◌, refl, subst}
use mathlib.Core.Logic.{◌≢◌, ◌⊎◌, inl, inr, ⊎_elim, ◌↔◌, by_cases}
use mathlib.Core.List.{List}
use Prim.Native.Nat.{ℕ, ◌≤◌, ◌<◌}
use Rattle.std.specs.Prelude.{Some, None}
use native.Mathlib.Decide.{ℕ_discrete}
use native.Mathlib.Omega.{arith}
use Rattle.bits.specs.First.{First}
use Rattle.bits.specs.declared.sets.Set.{Set}
use Rattle.bits.specs.Sets.{Has, empty_set, Members, Difference}
use Rattle.bits.specs.Tables.{TableOf}
use Rattle.bits.proofs.Members.{none, has?}
use Rattle.theory.specs.Paths.{Edges, Star, Avoid}
use Rattle.theory.specs.Charts.{Any, Branch}
use Rattle.theory.specs.Checks.{Unreached, OnBranchCycle, NoBranchCycle}
use Rattle.theory.proofs.Paths.{star_map, plus_map, plus_below}
use Rattle.chart.specs.Bodies.{vertices_of, start_of, WellFormed}
use Rattle.reach.specs.Searches.{Leads, FromSet, OnCycle}
use Rattle.chart.specs.Steps.{StepsOf}
use Rattle.chart.proofs.Relations.{steps_formed}
use Rattle.witness.specs.Given.{FirstUnreached}
use Rattle.witness.proofs.Firsts.{first_here, first_none, first_as}

-- the set of one vertex
pub only_member : {none_yet r : Set} {w : ℕ} → none_yet ≡ empty_set → ((y : ℕ) → Has r y ↔ (Has none_yet y ⊎ (y ≡ w))) → Members (λ (y : ℕ). y ≡ w) r
only_member e f = record { exactly = λ y l. (λ h. ⊎_elim (λ g. absurd (none y (rw e at g))) (λ z. z) ((f y).0 h), λ z. (f y).1 (inr z)) }

-- from the vertices of B, along what the table has, which is E but for the transitions that leave stop
closed_from : {a : List ℕ} {set r : Set} {stop : ℕ} {D E : Edges} {B P : ℕ → Type 0} → TableOf D a
    → ((u w : ℕ) → D u w → (u < 128) × (w < 128)) → ((u w : ℕ) → Avoid stop D u w ↔ E u w)
    → Members B set → ((w : ℕ) → B w → w < 128) → Members (FromSet (Avoid stop (Leads a)) set) r
    → ((w : ℕ) → ((x : ℕ) × B x × Star E x w) ↔ P w) → Members P r
closed_from {a} {stop = stop} {E = E} T low h M small R f = record {
  exactly = λ w l. (
    λ e. let (x, q, p) = (R.exactly w l).0 e in (f w).0 (x, (M.exactly x q.below).0 q, star_map there p),
    λ s. let (x, q, p) = (f w).1 s in (R.exactly w l).1 (x, (M.exactly x (small x q)).1 q, star_map back p),
  );
}
  where
    there : (u w : ℕ) → Avoid stop (Leads a) u w → E u w
    there u w (n, s) = (h u w).0 (n, (T.exactly u w s.has.below).0 s.has)

    back : (u w : ℕ) → E u w → Avoid stop (Leads a) u w
    back u w e = let (n, d) = (h u w).1 e in let (i, j) = low u w d in (n, record { from = i; has = (T.exactly u w j).1 d })

module _ {b labels : List ℕ} (W : WellFormed b) where
  -- vertices are below 128, and the end has no transitions
  pub step_low : {u l w : ℕ} → StepsOf b labels u l w → (u < 128) × (w < 128)
  step_low s =
      let F = steps_formed b labels W in
      let v = W.header.vertices_high in
      (omega (arith, (F.from_vertex _ _ _ s).1), omega (arith, F.to_vertex _ _ _ s))

  not_end : {u l w : ℕ} → StepsOf b labels u l w → u ≢ 0
  not_end s e = omega (arith, ((steps_formed b labels W).from_vertex _ _ _ s).0)

  -- 31: what the start reaches, by all transitions
  pub members_reached : {next : List ℕ} {set r : Set} {start : ℕ} → TableOf (Any (StepsOf b labels)) next → start < 128
      → Members (λ (w : ℕ). w ≡ start) set → Members (FromSet (Avoid 0 (Leads next)) set) r
      → Members (Star (Any (StepsOf b labels)) start) r
  members_reached {start = start} T h M R =
      closed_from
      T
      (λ u w (l, s). step_low s)
      (λ u w. (λ e. e.1, λ (l, s). (not_end s, (l, s))))
      M
      (λ w e. omega arith)
      R
      (λ w. (λ (x, e, p). subst (λ (u : ℕ). Star (Any (StepsOf b labels)) u w) e p, λ p. (start, refl, p)))

  -- 32 has passed: no vertex is on a branch cycle
  pub acyclic : {r : ℕ} → First (OnBranchCycle (StepsOf b labels)) 0 (vertices_of b) r → vertices_of b ≤ r
      → NoBranchCycle (StepsOf b labels)
  acyclic F h w c =
      let l : w < vertices_of b = plus_below (λ u x. (steps_formed b labels W).to_vertex u 0 x) c in F.before w (omega arith) (omega arith) c

  module _ {branches : List ℕ} (T : TableOf (Branch (StepsOf b labels)) branches) where
    pub leads_branch : (u w : ℕ) → Leads branches u w → Branch (StepsOf b labels) u w
    leads_branch u w s = (T.exactly u w s.has.below).0 s.has

    pub branch_leads : (u w : ℕ) → Branch (StepsOf b labels) u w → Leads branches u w
    branch_leads u w s = let (i, j) = step_low s in record { from = i; has = (T.exactly u w j).1 s }

    -- 32: a cycle of the table is one of branches
    pub cycle_first : {n r : ℕ} → First (OnCycle branches) 0 n r → First (OnBranchCycle (StepsOf b labels)) 0 n r
    cycle_first = first_as (λ w h. (plus_map leads_branch, plus_map branch_leads))

-- every vertex before w but the end is reached
module _ {b labels : List ℕ} {r : Set} (W : WellFormed b) (M : Members (Star (Any (StepsOf b labels)) (start_of b)) r)
    {w : ℕ} (all : (k : ℕ) → 0 < k → k < w → Has r k) where
  none_unreached : (k : ℕ) → k < w → ¬ Unreached (vertices_of b) (StepsOf b labels) (start_of b) k
  none_unreached k h (a, l, p) = p ((M.exactly k (omega (arith, W.header.vertices_high))).0 (all k a h))

  unreached_here : 0 < w → w < vertices_of b → ¬ Has r w → FirstUnreached b labels (Some w)
  unreached_here a l h = record {
    first = first_here none_unreached l (a, l, λ p. h ((M.exactly w (omega (arith, W.header.vertices_high))).1 p));
    below = l;
  }

  unreached_none : w ≡ vertices_of b → FirstUnreached b labels None
  unreached_none e = record {
    first = subst (First (Unreached (vertices_of b) (StepsOf b labels) (start_of b)) 0 (vertices_of b)) e (first_none none_unreached e);
    below = tt;
  }

-- w is the lowest of the vertices that are not reached, the end aside, or 128
module _ {b labels : List ℕ} {r : Set} (W : WellFormed b) (M : Members (Star (Any (StepsOf b labels)) (start_of b)) r)
    {vertices all missing : Set} {w : ℕ} (B : Members (λ (x : ℕ). x < vertices_of b) vertices)
    (A : (x : ℕ) → Has all x ↔ (Has r x ⊎ (x ≡ 0))) (D : Difference vertices all missing) (F : First (Has missing) 0 128 w) where
  below : (k : ℕ) → 0 < k → k < w → k < vertices_of b → Has r k
  below k a h l = by_cases (has? r k) (λ g. g) (λ n. absurd (F.before k (omega arith) h
      ((D k).1 ((B.exactly k (omega (arith, W.header.vertices_high))).1 l, λ g. ⊎_elim n (λ z. omega (arith, a, z)) ((A k).0 g)))))

  pub lowest_unreached : w ≢ 128 → FirstUnreached b labels (Some w)
  lowest_unreached n =
      let m : w < 128 = omega (arith, n, F.within) in
      let (p, q) = (D w).0 (F.holds m) in
      let l : w < vertices_of b = (B.exactly w m).0 p in
      let a : 0 < w = by_cases (ℕ_discrete w 0) (λ z. absurd (q ((A w).1 (inr z)))) (λ z. omega arith) in
      unreached_here W M (λ k i h. below k i h (omega arith)) a l (λ g. q ((A w).1 (inl g)))

  pub none_missing : w ≡ 128 → FirstUnreached b labels None
  none_missing e = unreached_none W M {w = vertices_of b} (λ k i h. below k i (omega (arith, e, h, W.header.vertices_high)) h) refl
