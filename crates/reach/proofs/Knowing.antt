-- What a struct of the code keeps says only that it holds; here it is had again, since reachability along a table is
-- decided.
use mathlib.Core.Logic.{∥∥₁_elim, ∥∥₁_map}
use mathlib.Core.HLevel.{⊥_prop}
use mathlib.Core.List.{List}
use Prim.Native.Nat.{ℕ, ◌/◌}
use native.Mathlib.Decide.{ℕ_discrete, dec_lt}
use native.Mathlib.Omega.{arith}
use lib.ListN.{length}
use Rattle.bits.specs.Tables.{WholeSets, row_of}
use Rattle.bits.proofs.Members.{has?}
use Rattle.theory.specs.Paths.{Plus}
use Rattle.theory.proofs.Tests.{test_of, decides_dec, decided}
use Rattle.theory.proofs.Reachability.{decides_plus}
use Rattle.reach.specs.Searches.{Leads, Known}

-- what is decided and holds
shown : {P : Type 0} → Dec P → ∥ P ∥₁ → P
shown (yes p) t = p
shown (no n) t = absurd (∥∥₁_elim t ⊥_prop n)

leads? : (a : List ℕ) (x y : ℕ) → Dec (Leads a x y)
leads? a x y = elim (dec_lt x 128) [
  | yes l ↦ elim (has? (row_of a x) y) [ yes h ↦ yes (record { from = l; has = h }) | no n ↦ no (λ e. n e.has) ]
  | no n ↦ no (λ e. n e.from)
]

plus? : (a : List ℕ) (x y : ℕ) → Dec (Plus (Leads a) x y)
plus? a x y = decided (decides_plus {e = λ u w. test_of (leads? a u w)} (λ u w. decides_dec (leads? a u w)) 128 (λ u w e. e.has.below) x y)

pub known_of : {a after : List ℕ} {from to : ℕ} → ∥ Known a after from to ∥₁ → Known a after from to
known_of {a} {after} t = record {
  exactly = λ x y p q l. (
    λ h. shown (plus? a x y) (∥∥₁_map t (λ k. (k.exactly x y p q l).0 h)),
    λ w. shown (has? (row_of after x) y) (∥∥₁_map t (λ k. (k.exactly x y p q l).1 w)),
  );
}

pub whole_of : (a : List ℕ) → ∥ WholeSets a ∥₁ → WholeSets a
whole_of a t = (length a / 2, shown (ℕ_discrete _ _) (∥∥₁_map t (λ (n, e). omega (arith, e))))
