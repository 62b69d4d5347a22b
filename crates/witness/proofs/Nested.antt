-- What the entries of a vertex reach, from what those of another reach: a set that is closed but for its vertex.
use mathlib.Core.Logic.{◌≢◌, ◌⊎◌, inl, inr, ⊎_elim, by_cases, ◌↔◌}
use mathlib.Core.Path.{◌≡◌, subst}
use mathlib.Core.List.{List}
use Prim.Native.Nat.{ℕ}
use native.Mathlib.Decide.{ℕ_discrete}
use Rattle.bits.specs.declared.sets.Set.{Set}
use Rattle.bits.specs.Sets.{Has, empty_set, Empty, Members, Union, Difference}
use Rattle.bits.specs.Tables.{row_of}
use Rattle.bits.proofs.Members.{none, has?}
use Rattle.theory.specs.Paths.{Edges, Star, here, step, Avoid}
use Rattle.theory.proofs.Paths.{star_snoc}
use Rattle.reach.specs.Searches.{Leads, FromSet, Closed, ClosedBut, InOrFrom}
use Rattle.witness.specs.Loops.{HasReached}

-- nothing is inside
pub nothing_closed : (E : Edges) {s : Set} → s ≡ empty_set → Closed E s
nothing_closed E e x y h = absurd (none x (rw e at h))

-- fewer reach no more
pub fewer_reached : {a : List ℕ} {v : ℕ} {some set r : Set} → ((w : ℕ) → Has some w → Has set w) → HasReached a v set r
    → HasReached a v some r
fewer_reached f R w l (u, h, p) = R w l (u, f u h, p)

-- a closed set that has another has what that reaches
along : {E : Edges} {s : Set} → Closed E s → {u w : ℕ} → Star E u w → Has s u → Has s w
along C here h = h
along C (step e p) h = along C p (C _ _ h e)

pub closed_reached : {a : List ℕ} {v : ℕ} {set r : Set} → Closed (Avoid v (Leads a)) r → ((w : ℕ) → Has set w → Has r w)
    → HasReached a v set r
closed_reached C f w l (u, h, p) = along C p (f u h)

-- a search from a set alone
module _ {a : List ℕ} {v : ℕ} {set r : Set} (M : Members (FromSet (Avoid v (Leads a)) set) r) where
  pub alone_reached : HasReached a v set r
  alone_reached w l = (M.exactly w l).1

  pub alone_closed : Closed (Avoid v (Leads a)) r
  alone_closed x y h e =
      let (u, k, p) = (M.exactly x h.below).0 h in
      (M.exactly y e.1.has.below).1 (u, k, star_snoc p e)

-- what is inside another loop, where its vertex leads to that and v alone
module _ {a : List ℕ} {v last : ℕ} {set inside next both new others all : Set} (C : Closed (Avoid last (Leads a)) inside)
    (R : next ≡ row_of a last) (U : Union next set both) (D : Difference both inside new)
    (O : (y : ℕ) → Has others y ↔ (Has new y × (y ≢ v))) (N : Empty others) (A : (y : ℕ) → Has all y ↔ (Has inside y ⊎ (y ≡ v))) where
  within : (y : ℕ) → Has both y → Has all y
  within y h = (A y).1 (by_cases (ℕ_discrete y v) inr (λ n. by_cases (has? inside y) inl (λ k. absurd (N y ((O y).1 ((D y).1 (h, k), n))))))

  pub beside_closed : Closed (Avoid v (Leads a)) all
  beside_closed x y h (n, e) = ⊎_elim
      (λ k. by_cases (ℕ_discrete x last)
      (λ z. within y ((U y).1 (inl (rw R (subst (λ (u : ℕ). Has (row_of a u) y) z e.has)))))
      (λ d. (A y).1 (inl (C x y k (d, e)))))
      (λ z. absurd (n z))
      ((A x).0 h)

  pub beside_reached : HasReached a v set all
  beside_reached = closed_reached beside_closed (λ w h. within w ((U w).1 (inr h)))

-- a search that goes on from what is inside another loop, by its vertex
module _ {a : List ℕ} (v : ℕ) {last : ℕ} {set inside others more : Set} (C : Closed (Avoid last (Leads a)) inside)
    (O : (y : ℕ) → Has others y ↔ (Has inside y × (y ≢ last))) (W : (y : ℕ) → Has more y ↔ (Has set y ⊎ (y ≡ last))) where
  pub inside_closed : ClosedBut (Avoid v (Leads a)) others more
  inside_closed x y h (n, e) =
      let (k, d) = (O x).0 h in
      elim (ℕ_discrete y last) [ yes q ↦ inr ((W y).1 (inr q)) | no q ↦ inl ((O y).1 (C x y k (d, e), q)) ]

  module _ {r : Set} (M : Members (InOrFrom (Avoid v (Leads a)) others more) r) where
    pub nested_reached : HasReached a v set r
    nested_reached w l (u, k, p) = (M.exactly w l).1 (inr (u, (W u).1 (inl k), p))

    pub nested_closed : Closed (Avoid v (Leads a)) r
    nested_closed x y h e = (M.exactly y e.1.has.below).1 (⊎_elim
        (λ k. ⊎_elim inl (λ g. inr (y, g, here)) (inside_closed x y k e))
        (λ (u, k, p). inr (u, k, star_snoc p e))
        ((M.exactly x h.below).0 h))
