-- The list of a state's members, and the bytes of a list of vertices.
use mathlib.Core.Path.{◌≡◌, refl, sym, ap, ◌∙◌}
use mathlib.Core.Logic.{◌⊎◌, inl, inr, ◌↔◌, ⊎_elim}
use mathlib.Core.Bool.{Bool, true, false, cond, true≢false}
use mathlib.Core.List.Memᴰ
use mathlib.Core.List.{List, [], ◌∷◌, Memᴰ}
use Prim.Native.Nat.{ℕ, zero, suc, ◌+◌, ◌≤◌, ◌<◌}
use native.Mathlib.Nat.{eq-or-lt_of_le}
use native.Mathlib.Omega.{arith}
use lib.Dec.{eqb, ltb}
use borrow.Author.Tests.{lt-ltb}
use Rattle.theory.specs.Ascending.{Below, Ascending}
use Rattle.theory.specs.Tests.{Decides, some_in}
use Rattle.theory.proofs.Tests.{decides_listed}
use Rattle.bits.specs.Bits.{has_bit, list_from}
use Rattle.bits.proofs.SetBytes.{set_bit}
use Rattle.follower.specs.declared.Follower.{Follower}
use Rattle.follower.specs.States.{InState, members_of, set_of}

-- LISTS OF NUMBERS with p, of the n from i on
module _ (p : ℕ → Bool) where
  pub list-from→ : (i n k : ℕ) → Memᴰ k (list_from p i n) → (i ≤ k) × (k < i + n) × (p k ≡ true)
  unfolding list_from
  list-from→ i zero k m = absurd (Memᴰ.not-nil m)
  list-from→ i (suc n) k m = go (p i) refl (list-from→ (suc i) n k) m
    where
      later : (suc i ≤ k) × (k < suc i + n) × (p k ≡ true) → (i ≤ k) × (k < i + suc n) × (p k ≡ true)
      later (l, h, e) = (omega arith, omega arith, e)

      go : (b : Bool) → p i ≡ b → (Memᴰ k (list_from p (suc i) n) → (suc i ≤ k) × (k < suc i + n) × (p k ≡ true))
          → Memᴰ k (cond b (i ∷ list_from p (suc i) n) (list_from p (suc i) n)) → (i ≤ k) × (k < i + suc n) × (p k ≡ true)
      go true e next h = ⊎_elim (λ (q : k ≡ i). (omega arith, omega arith, ap p q ∙ e)) (λ t. later (next t)) (Memᴰ.cases_cons h)
      go false e next h = later (next h)

  pub list-from← : (i n k : ℕ) → i ≤ k → k < i + n → p k ≡ true → Memᴰ k (list_from p i n)
  unfolding list_from
  list-from← i zero k l h e = absurd (omega arith)
  list-from← i (suc n) k l h e = go (p i) refl (λ g. list-from← (suc i) n k g (omega arith) e) (eq-or-lt_of_le l)
    where
      go : (b : Bool) → p i ≡ b → (suc i ≤ k → Memᴰ k (list_from p (suc i) n)) → (i ≡ k) ⊎ (i < k)
          → Memᴰ k (cond b (i ∷ list_from p (suc i) n) (list_from p (suc i) n))
      go true q next (inl z) = Memᴰ.head (sym z)
      go true q next (inr g) = Memᴰ.tail (next g)
      go false q next (inl z) = absurd (true≢false (sym e ∙ ap p (sym z) ∙ q))
      go false q next (inr g) = next g

  pub list_ascends : (i n : ℕ) → Ascending ltb (list_from p i n)
  unfolding list_from
  list_ascends i zero = tt
  list_ascends i (suc n) = go (p i) (first (list_from p (suc i) n) (λ k m. (list-from→ (suc i) n k m).0)) (list_ascends (suc i) n)
    where
      first : (l : List ℕ) → ((k : ℕ) → Memᴰ k l → suc i ≤ k) → Below ltb i l
      first [] h = tt
      first (k ∷ l) h = lt-ltb i k (h k (Memᴰ.head refl))

      go : (b : Bool) → Below ltb i (list_from p (suc i) n) → Ascending ltb (list_from p (suc i) n)
          → Ascending ltb (cond b (i ∷ list_from p (suc i) n) (list_from p (suc i) n))
      go true f a = (f, a)
      go false f a = a

-- THE MEMBERS OF A STATE are the vertices whose bits it has
pub members_are : (f : Follower) (v : ℕ) → Memᴰ v (members_of f) ↔ InState f v
members_are f v = (
  λ m. let (l, h, e) = list-from→ (has_bit f.set) 0 128 v m in (omega arith, e),
  λ (h, e). list-from← (has_bit f.set) 0 128 v (omega arith) (omega arith) e,
)

-- and the bytes of a list of vertices have the bits of just these
pub set_has : (xs : List ℕ) (v : ℕ) → v < 128 → Decides (has_bit (set_of xs) v) (Memᴰ v xs)
set_has xs v h = rw (set_bit (λ v. some_in (eqb v) xs) v h) (decides_listed v xs)
