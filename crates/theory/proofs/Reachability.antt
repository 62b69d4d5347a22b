-- The reachability test decides reachability.
use mathlib.Core.Path.{◌≡◌, refl, sym, ◌∙◌, ap, subst}
use mathlib.Core.Logic.{◌⊎◌, inl, inr, ⊎_elim}
use mathlib.Core.Bool.{Bool, true, false, false≢true}
use mathlib.Core.List.{List, [], ◌∷◌, ◌++◌}
use Prim.Native.Nat.{ℕ, zero, suc, ◌+◌, ◌≤◌, ◌<◌}
use native.Mathlib.Omega.{arith}
use native.Mathlib.Decide.{ℕ_discrete, dec_lt}
use lib.ListN.{length, length-append, get_or-append, get_or-eq_default}
use lib.Seq.{get_or-append-add}
use Rattle.theory.specs.Paths.{Edges, Star, here, step, Plus}
use Rattle.theory.specs.Tests.{Decides}
use Rattle.theory.specs.Reachability.{values, at, grows, rounds, reaches, leads_to}
use Rattle.theory.proofs.Paths.{plus_of, plus_first}
use Rattle.theory.proofs.Tests.{decides_and, decides_or, decides_below, decides_same}

-- LISTS OF VALUES
pub values_length : (p : ℕ → Bool) (n : ℕ) → length (values p n) ≡ n
unfolding values
values_length p zero = refl
values_length p (suc n) = length-append (values p n) (p n ∷ []) ∙ omega (arith, values_length p n)

pub values_at : (p : ℕ → Bool) (n w : ℕ) → w < n → at (values p n) w ≡ p w
unfolding values
values_at p zero w h = absurd (omega arith)
values_at p (suc n) w h = elim (ℕ_discrete w n) [
  | yes e ↦ rw e (ap (λ (k : ℕ). at (values p n ++ p n ∷ []) k) (sym (values_length p n) ∙ omega arith) ∙ get_or-append-add (values p n) (p n ∷ []) 0 false)
  | no e ↦ get_or-append (values p n) (p n ∷ []) false w (omega (arith, values_length p n)) ∙ values_at p n w (omega arith)
]

at_within : (m : List Bool) (w : ℕ) → at m w ≡ true → w < length m
at_within m w e = elim (dec_lt w (length m)) [ yes h ↦ h | no h ↦ absurd (false≢true (sym (get_or-eq_default m false {n = w} (omega arith)) ∙ e)) ]

-- how many are marked
marked : List Bool → ℕ
marked [] = 0
marked (true ∷ m) = suc (marked m)
marked (false ∷ m) = marked m

marked_le : (m : List Bool) → marked m ≤ length m
unfolding marked
marked_le [] = omega arith
marked_le (true ∷ m) = omega (arith, marked_le m)
marked_le (false ∷ m) = omega (arith, marked_le m)

-- where a longer list marks all that a list does, it marks more or is the same
Covers : List Bool → List Bool → Type 0
Covers m k = (w : ℕ) → at m w ≡ true → at k w ≡ true

more_or_same : (m k : List Bool) → length m ≡ length k → Covers m k → (marked m < marked k) ⊎ (m ≡ k)
unfolding marked Covers
more_or_same [] [] e c = inr refl
more_or_same [] (y ∷ k) e c = absurd (omega arith)
more_or_same (x ∷ m) [] e c = absurd (omega arith)
more_or_same (true ∷ m) (true ∷ k) e c = ⊎_elim (λ h. inl (omega arith)) (λ h. inr (ap (◌∷◌ true) h)) (more_or_same m k (omega arith) (λ w. c (suc w)))
more_or_same (true ∷ m) (false ∷ k) e c = absurd (false≢true (c 0 refl))
more_or_same (false ∷ m) (true ∷ k) e c = inl (⊎_elim (λ (h : marked m < marked k). omega arith) (λ (h : m ≡ k). omega (arith, ap marked h)) (more_or_same m k (omega arith) (λ w. c (suc w))))
more_or_same (false ∷ m) (false ∷ k) e c = ⊎_elim (λ h. inl (omega arith)) (λ h. inr (ap (◌∷◌ false) h)) (more_or_same m k (omega arith) (λ w. c (suc w)))

-- ROUNDS
module _ {e : ℕ → ℕ → Bool} {E : Edges} (decides : (u w : ℕ) → Decides (e u w) (E u w)) (n : ℕ) (below : (u w : ℕ) → E u w → w < n) where
  -- one round
  grown : List Bool → List Bool
  grown m = values (grows e n m) n

  decides_grows : (m : List Bool) (w : ℕ) → Decides (grows e n m w) ((at m w ≡ true) ⊎ ((u : ℕ) × (u < n) × ((at m u ≡ true) × E u w)))
  decides_grows m w = decides_or ((λ q. q), (λ q. q)) (decides_below (λ u. decides_and ((λ q. q), (λ q. q)) (decides u w)) n)

  -- a set of vertices is a list of n values
  grown_covers : (m : List Bool) → length m ≡ n → Covers m (grown m)
  unfolding grown Covers
  grown_covers m l w h = values_at (grows e n m) n w (omega (arith, at_within m w h)) ∙ (decides_grows m w).1 (inl h)

  grown_length : (m : List Bool) → length (grown m) ≡ n
  unfolding grown
  grown_length m = values_length (grows e n m) n

  -- nothing is added: every transition from a marked vertex leads to a marked one
  stable_closed : (m : List Bool) → grown m ≡ m → (u w : ℕ) → u < n → at m u ≡ true → E u w → at m w ≡ true
  unfolding grown
  stable_closed m s u w h q x = ap (λ (k : List Bool). at k w) (sym s) ∙ values_at (grows e n m) n w (below u w x) ∙ (decides_grows m w).1 (inr (u, h, (q, x)))

  full : (m k : List Bool) → length m ≡ length k → length m ≤ marked m → Covers m k → m ≡ k
  full m k l h c = ⊎_elim (λ (g : marked m < marked k). absurd (omega (arith, marked_le k))) (λ g. g) (more_or_same m k l c)

  -- after k rounds nothing more is added, or as many vertices are marked
  settled : (k : ℕ) (m : List Bool) (t : ℕ) → length m ≡ n → t ≤ marked m → (grown (rounds e n k m) ≡ rounds e n k m) ⊎ (t + k ≤ marked (rounds e n k m))
  unfolding rounds grown
  settled zero m t l h = inr (omega arith)
  settled (suc k) m t l h = go (more_or_same m (values (grows e n m) n) (l ∙ sym (values_length (grows e n m) n)) (grown_covers m l)) (settled k (values (grows e n m) n))
    where
      stays : (j : ℕ) (x : List Bool) → values (grows e n x) n ≡ x → rounds e n j x ≡ x
      stays zero x s = refl
      stays (suc j) x s = ap (rounds e n j) s ∙ stays j x s

      go : (marked m < marked (values (grows e n m) n)) ⊎ (m ≡ values (grows e n m) n) → ((s : ℕ) → length (values (grows e n m) n) ≡ n → s ≤ marked (values (grows e n m) n) → (grown (rounds e n k (values (grows e n m) n)) ≡ rounds e n k (values (grows e n m) n)) ⊎ (s + k ≤ marked (rounds e n k (values (grows e n m) n)))) → (grown (rounds e n (suc k) m) ≡ rounds e n (suc k) m) ⊎ (t + suc k ≤ marked (rounds e n (suc k) m))
      go (inl g) rec = ⊎_elim (λ s. inl s) (λ s. inr (omega arith)) (rec (suc t) (values_length (grows e n m) n) (omega arith))
      go (inr g) rec = inl (ap grown (ap (rounds e n k) (sym g) ∙ stays k m (sym g)) ∙ sym g ∙ sym (ap (rounds e n k) (sym g) ∙ stays k m (sym g)))

  rounds_length : (k : ℕ) (m : List Bool) → length m ≡ n → length (rounds e n k m) ≡ n
  unfolding rounds
  rounds_length zero m l = l
  rounds_length (suc k) m l = rounds_length k (values (grows e n m) n) (values_length (grows e n m) n)

  rounds_covers : (k : ℕ) (m : List Bool) → length m ≡ n → Covers m (rounds e n k m)
  unfolding rounds Covers grown
  rounds_covers zero m l w h = h
  rounds_covers (suc k) m l w h = rounds_covers k (values (grows e n m) n) (values_length (grows e n m) n) w (grown_covers m l w h)

  rounds_sound : (k : ℕ) (m : List Bool) (w : ℕ) → at (rounds e n k m) w ≡ true → (u : ℕ) × (at m u ≡ true) × Star E u w
  unfolding rounds
  rounds_sound zero m w h = (w, h, here)
  rounds_sound (suc k) m w h =
      let (u, q, p) = rounds_sound k (values (grows e n m) n) w h in
      ⊎_elim (λ x. (u, x, p)) (λ (v, b, (x, y)). (v, x, step y p))
      ((decides_grows m u).0 (sym (values_at (grows e n m) n u (rw (values_length (grows e n m) n) at (at_within (values (grows e n m) n) u q))) ∙ q))

  stable : (m : List Bool) → length m ≡ n → grown (rounds e n n m) ≡ rounds e n n m
  stable m l = ⊎_elim (λ s. s) (λ (h : 0 + n ≤ marked (rounds e n n m)). sym (full (rounds e n n m) (grown (rounds e n n m)) (rounds_length n m l ∙ sym (grown_length (rounds e n n m))) (omega (arith, rounds_length n m l)) (grown_covers (rounds e n n m) (rounds_length n m l)))) (settled n m 0 l (omega arith))

  rounds_complete : (m : List Bool) → length m ≡ n → {u w : ℕ} → at (rounds e n n m) u ≡ true → Star E u w → at (rounds e n n m) w ≡ true
  rounds_complete m l h here = h
  rounds_complete m l {u} h (step {w = x} y p) = rounds_complete m l (stable_closed (rounds e n n m) (stable m l) u x (rw (rounds_length n m l) at (at_within (rounds e n n m) u h)) h y) p

  -- THE TEST decides which vertices are reached from those that begin tests
  pub decides_reaches : {begin : ℕ → Bool} {B : ℕ → Type 0} → ((u : ℕ) → Decides (begin u) (B u)) → ((u : ℕ) → B u → u < n) → (w : ℕ) → Decides (reaches e n begin w) ((u : ℕ) × B u × Star E u w)
  unfolding reaches Covers
  decides_reaches {begin} d low w = (
    (λ h. let (u, q, p) = rounds_sound n (values begin n) w h in (u, (d u).0 (sym (values_at begin n u (rw (values_length begin n) at (at_within (values begin n) u q))) ∙ q), p)),
    (λ (u, b, p). rounds_complete (values begin n) (values_length begin n) (rounds_covers n (values begin n) (values_length begin n) u (values_at begin n u (low u b) ∙ (d u).1 b)) p),
  )

  pub decides_star : (u w : ℕ) → u < n → {begin : ℕ → Bool} → ((x : ℕ) → Decides (begin x) (x ≡ u)) → Decides (reaches e n begin w) (Star E u w)
  decides_star u w h d = decides_same ((λ (x, q, p). subst (λ (y : ℕ). Star E y w) q p), (λ p. (u, refl, p))) (decides_reaches d (λ x q. omega arith) w)

  pub decides_plus : (u w : ℕ) → Decides (leads_to e n u w) (Plus E u w)
  decides_plus u w = decides_same ((λ (x, q, p). plus_of q p), plus_first) (decides_reaches (decides u) (below u) w)
