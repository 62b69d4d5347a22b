-- Bisimulations of systems with equal states, one after the other, and of systems with their actions replaced; relations lifted to
-- sets.
use Prim.Native.Nat.{ℕ}
use mathlib.Core.Path.{◌≡◌, refl}
use mathlib.Core.Logic.Iff
use mathlib.Core.Logic.{◌↔◌}
use Rattle.theory.specs.Systems.{System, Bisimulation, Lift, renamed}

-- EQUALITY is a bisimulation of systems that differ only in how ends and steps are stated
pub equal_states : {S : Type 0} {s : S} {E F : S → Type 0} {T U : S → ℕ → S → Type 0}
    → ((x : S) → E x ↔ F x) → ((x : S) (a : ℕ) (y : S) → T x a y ↔ U x a y)
    → Bisimulation (record { State = S; start = s; End = E; Step = T }) (record { State = S; start = s; End = F; Step = U }) ◌≡◌
equal_states e t = record {
  starts = refl;
  ends = λ x y p. rw p (e y);
  forth = λ x y p a x' h. (x', (t y a x').0 (rw p at h), refl);
  back = λ x y p a y' h. (y', rw p ((t y a y').1 h), refl);
}

pub identity : (M : System) → Bisimulation M M ◌≡◌
identity M = equal_states (λ x. Iff.rfl) (λ x a y. Iff.rfl)

-- THE SAME RELATION, stated in another way
pub same_relation : {M N : System} {R Q : M.State → N.State → Type 0} → ((x : M.State) (y : N.State) → R x y ↔ Q x y)
    → Bisimulation M N R → Bisimulation M N Q
same_relation s b = record {
  starts = (s _ _).0 b.starts;
  ends = λ x y q. b.ends x y ((s x y).1 q);
  forth = λ x y q a x' h. let (y', k, r) = b.forth x y ((s x y).1 q) a x' h in (y', k, (s x' y').0 r);
  back = λ x y q a y' h. let (x', k, r) = b.back x y ((s x y).1 q) a y' h in (x', k, (s x' y').0 r);
}

-- ONE AFTER THE OTHER
pub composed : {M N O : System} {R : M.State → N.State → Type 0} {Q : N.State → O.State → Type 0}
    → Bisimulation M N R → Bisimulation N O Q → Bisimulation M O (λ x z. (y : N.State) × R x y × Q y z)
composed {N = N} a b = record {
  starts = (N.start, a.starts, b.starts);
  ends = λ x z (y, r, q). (
    (λ h. (b.ends y z q).0 ((a.ends x y r).0 h)),
    (λ h. (a.ends x y r).1 ((b.ends y z q).1 h)),
  );
  forth = λ x z (y, r, q) k x' h.
      let (y', i, r') = a.forth x y r k x' h in
      let (z', j, q') = b.forth y z q k y' i in
      (z', j, (y', r', q'));
  back = λ x z (y, r, q) k z' h.
      let (y', i, q') = b.back y z q k z' h in
      let (x', j, r') = a.back x y r k y' i in
      (x', j, (y', r', q'));
}

-- ACTIONS REPLACED in both systems alike: a bisimulation stays one
pub renamed_bisimulation : {M N : System} {R : M.State → N.State → Type 0} (f : ℕ → ℕ)
    → Bisimulation M N R → Bisimulation (renamed f M) (renamed f N) R
renamed_bisimulation f b = record {
  starts = b.starts;
  ends = b.ends;
  forth = λ x y r a x' h. let (y', s, r') = b.forth x y r h.0 x' h.1 in (y', (h.0, s, h.2), r');
  back = λ x y r a y' h. let (x', s, r') = b.back x y r h.0 y' h.1 in (x', (h.0, s, h.2), r');
}

-- LIFTED to sets of states: by equality, the same members
pub lift_equal : {A : Type 0} {P Q : A → Type 0} → ((x : A) → P x ↔ Q x) → Lift ◌≡◌ P Q
lift_equal s = (λ x p. (x, (s x).0 p, refl), λ x q. (x, (s x).1 q, refl))

pub equal_lift : {A : Type 0} {P Q : A → Type 0} → Lift ◌≡◌ P Q → (x : A) → P x ↔ Q x
equal_lift l x = (λ p. let (y, q, e) = l.0 x p in rw e q, λ q. let (y, p, e) = l.1 x q in rw (← e) p)

module _ {A B : Type 0} {R : A → B → Type 0} {P : A → Type 0} {Q : B → Type 0} (l : Lift R P Q) where
  pub lift_same : {P' : A → Type 0} {Q' : B → Type 0} → ((x : A) → P' x ↔ P x) → ((y : B) → Q' y ↔ Q y) → Lift R P' Q'
  lift_same s t = (
    λ x p. let r = l.0 x ((s x).0 p) in (r.0, (t r.0).1 r.1, r.2),
    λ y q. let r = l.1 y ((t y).0 q) in (r.0, (s r.0).1 r.1, r.2),
  )

  pub lift_some : ((x : A) × P x) ↔ ((y : B) × Q y)
  lift_some = (λ h. let r = l.0 h.0 h.1 in (r.0, r.1), λ h. let r = l.1 h.0 h.1 in (r.0, r.1))
