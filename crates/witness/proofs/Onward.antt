-- Where no path goes round: one that can go on from each vertex but v comes to v.
use mathlib.Core.Path.{◌≡◌, sym, subst}
use mathlib.Core.Logic.{◌≢◌, ◌⊎◌, inl, inr, ⊎_elim, by_cases, ◌↔◌}
use mathlib.Core.Bool.{Bool, true}
use mathlib.Core.List.{List}
use Prim.Native.Nat.{ℕ, zero, suc, ◌+◌, ◌≤◌, ◌<◌}
use native.Mathlib.Decide.{ℕ_discrete}
use native.Mathlib.Omega.{arith}
use Rattle.theory.specs.Paths.{Edges, Star, here, step, Plus, Avoid}
use Rattle.theory.proofs.Paths.{star_then, stretch}
use Rattle.theory.proofs.Search.{look_below, pigeonhole}
use Rattle.bits.specs.First.{First}
use Rattle.bits.specs.declared.sets.Set.{Set}
use Rattle.bits.specs.Sets.{Has, empty_set, Empty, Members, Union}
use Rattle.bits.specs.Tables.{row_of}
use Rattle.bits.proofs.Members.{none}
use Rattle.reach.specs.Searches.{Leads, Closed}
use Rattle.witness.specs.Loops.{HasReached, DeadEnd, LeadsOn}
use Rattle.witness.proofs.Nested.{closed_reached}

-- from where P holds, v aside, a step leads to where it holds too
module _ {E : Edges} (size : ℕ) (bounded : (u w : ℕ) → E u w → w < size) (acyclic : (w : ℕ) → ¬ Plus E w w) (v : ℕ)
    {P : ℕ → Type 0} (onward : (x : ℕ) → P x → x ≢ v → (y : ℕ) × E x y × P y) where
  -- the next vertex; v stays
  next : (s : (x : ℕ) × P x) → Dec (s.0 ≡ v) → (x : ℕ) × P x
  next s (yes e) = s
  next (x, p) (no n) = let (y, e, q) = onward x p n in (y, q)

  next_edge : (s : (x : ℕ) × P x) (d : Dec (s.0 ≡ v)) → s.0 ≢ v → E s.0 (next s d).0
  unfolding next
  next_edge s (yes e) n = absurd (n e)
  next_edge (x, p) (no m) n = (onward x p m).1

  next_star : (s : (x : ℕ) × P x) (d : Dec (s.0 ≡ v)) → Star E s.0 (next s d).0
  unfolding next
  next_star s (yes e) = here
  next_star (x, p) (no m) = step (onward x p m).1 here

  at : (s : (x : ℕ) × P x) → ℕ → (x : ℕ) × P x
  at s zero = s
  at s (suc k) = next (at s k) (ℕ_discrete (at s k).0 v)

  along : (s : (x : ℕ) × P x) (k : ℕ) → Star E s.0 (at s k).0
  unfolding at
  along s zero = here
  along s (suc k) = star_then (along s k) (next_star (at s k) (ℕ_discrete (at s k).0 v))

  edge : (s : (x : ℕ) × P x) (k : ℕ) → (at s k).0 ≢ v → E (at s k).0 (at s (suc k)).0
  unfolding at
  edge s k n = next_edge (at s k) (ℕ_discrete (at s k).0 v) n

  pub comes_to : (x : ℕ) → P x → Star E x v
  comes_to x p = go (look_below (λ k. ℕ_discrete (at (x, p) k).0 v) (suc size))
    where
      go : ((k : ℕ) × (k < suc size) × ((at (x, p) k).0 ≡ v)) ⊎ ((k : ℕ) → k < suc size → (at (x, p) k).0 ≢ v) → Star E x v
      go (inl (k, h, e)) = subst (Star E x) e (along (x, p) k)
      go (inr never) =
          let f : ℕ → ℕ = λ k. (at (x, p) (suc k)).0 in
          let (i, j, l, m, e) = pigeonhole size f (λ k h. bounded _ _ (edge (x, p) k (never k (omega arith)))) in
          absurd (acyclic _ (rw e at (stretch {E = E} f i j l (λ k a b. edge (x, p) (suc k) (never (suc k) (omega arith))))))

-- DEAD ENDS, those below k
pub dead_ends_none : (a : List ℕ) {r : Set} → r ≡ empty_set → Members (DeadEnd a 0) r
dead_ends_none a e = record { exactly = λ w l. (λ h. absurd (none w (rw e at h)), λ (h, n). absurd (omega (arith, h))) }

pub dead_ends_more : (a : List ℕ) (k : ℕ) {set s r : Set} {t : Bool} → Members (DeadEnd a k) s → set ≡ row_of a k → (t ≡ true) ↔ Empty set
    → ((y : ℕ) → Has r y ↔ (Has s y ⊎ ((t ≡ true) × (y ≡ k)))) → Members (DeadEnd a (k + 1)) r
dead_ends_more a k {set} M e T W = record {
  exactly = λ w l. (
    (λ h. ⊎_elim
        (λ g. let (i, n) = (M.exactly w l).0 g in (omega arith, n))
        (λ (t, z). (omega arith, subst (λ (x : ℕ). Empty (row_of a x)) (sym z) (rw e at (T.0 t))))
        ((W w).0 h)),
    (λ (i, n). (W w).1 (by_cases (ℕ_discrete w k)
        (λ z. inr (T.1 (rw e (subst (λ (x : ℕ). Empty (row_of a x)) z n)), z))
        (λ z. inl ((M.exactly w l).1 (omega arith, n))))),
  );
}

-- A SET THAT LEADS ON: v alone does
pub leads_on_alone : (a high : List ℕ) (ends : Set) (level : ℕ) {v x : ℕ} {to others : Set}
    → ((y : ℕ) → Has others y ↔ (Has to y × (y ≢ v))) → First (Has others) 0 128 x → 128 ≤ x → LeadsOn a high ends v level to
leads_on_alone a high ends level {v} {x} {to} O F i = record {
  all = to;
  reached = closed_reached alone (λ w h. h);
  closed = alone;
  lower = λ w h g. only h;
  onward = λ w h g. only h;
}
  where
    only : {w : ℕ} → Has to w → w ≡ v
    only {w} h =
        by_cases (ℕ_discrete w v) (λ e. e) (λ n. absurd (F.before w (omega arith) (omega (arith, h.below, i)) ((O w).1 (h, n))))

    alone : Closed (Avoid v (Leads a)) to
    alone y w h (n, e) = absurd (n (only h))

-- and one that meets nothing that is barred
pub leads_on_free : (a high : List ℕ) {ends set barred to all : Set} {level v : ℕ} → set ≡ row_of high level → Union set ends barred
    → HasReached a v to all → Closed (Avoid v (Leads a)) all → ((w : ℕ) → Has all w → Has barred w → w ≡ v) → LeadsOn a high ends v level to
leads_on_free a high {all = all} e U R C A = record {
  all = all;
  reached = R;
  closed = C;
  lower = λ w h g. A w h ((U w).1 (inl (rw e g)));
  onward = λ w h g. A w h ((U w).1 (inr g));
}
