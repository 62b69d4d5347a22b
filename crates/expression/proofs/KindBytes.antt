-- What is known of a kind, as the byte that stands for it.
use Prim.Native.Nat.{ℕ, ◌<◌, ◌≤◌}
use mathlib.Core.Path.{◌≡◌, refl, sym, ◌∙◌}
use mathlib.Core.Bool.{Bool, true, false, not, false≢true}
use mathlib.Core.Logic.{◌⊎◌, inl, inr, ◌↔◌, ◌≢◌, by_cases}
use native.Mathlib.Decide.{dec_lt}
use native.Mathlib.Omega.{arith}
use lib.Dec.{eqb}
use denote.Enum.Declared.{tag_of}
use denote.Enum.Bare.{sameb}
use borrow.Author.Tests.{not-true, not-false, eqb-true, eqb-false}
use Rattle.std.specs.Prelude.{IsTrue, Result, Ok, Err}
use Rattle.std.specs.Result.{result_unwrap_or}
use Rattle.expression.specs.declared.kind.Kind.{Kind}
use Rattle.expression.specs.declared.kind.Kind.TheVariants.{Deadlock, Action, Sum, Product, Star}
use Rattle.expression.specs.contracts.kind.Kind.{the_type}
use Rattle.expression.specs.declared.kind.UnknownKind.{UnknownKind}
use Rattle.expression.specs.Kinds.{byte_of, Decodes}

pub of_operator : {kind : Kind} → (kind ≡ Sum) ⊎ ((kind ≡ Product) ⊎ (kind ≡ Star)) → (2 ≤ byte_of kind) × (byte_of kind ≤ 4)
of_operator (inl e) = rw e (omega arith, omega arith)
of_operator (inr (inl e)) = rw e (omega arith, omega arith)
of_operator (inr (inr e)) = rw e (omega arith, omega arith)

-- a byte up to 4 stands for a kind
pub stands : (m : ℕ) → m ≤ 4 → (other : Kind) (r : Result Kind UnknownKind) → Decodes m r → byte_of (result_unwrap_or r other) ≡ m
stands m h other (Ok kind) d = d
stands m h other (Err e) d = absurd (omega (arith, d.1))

-- whether there are operands
module _ {m : ℕ} {b : Bool} (f : IsTrue b ↔ (2 ≤ m)) where
  pub with_operands : b ≡ true → 2 ≤ m
  with_operands e = f.0 e

  pub without_operands : b ≡ false → m < 2
  without_operands e = by_cases (dec_lt m 2) (λ h. h) (λ h. absurd (false≢true (sym e ∙ f.1 (omega arith))))

-- whether two kinds are the same, by their bytes
byte_is : (kind : Kind) → tag_of the_type kind ≡ byte_of kind
byte_is Deadlock = refl
byte_is Action = refl
byte_is Sum = refl
byte_is Product = refl
byte_is Star = refl

pub same_bytes : (a b : Kind) → sameb the_type a b ≡ eqb (byte_of a) (byte_of b)
same_bytes a b = rw (byte_is a, byte_is b)

module _ (a b : Kind) {r : Bool} where
  pub same_kind : r ≡ sameb the_type a b → r ≡ true → byte_of a ≡ byte_of b
  same_kind e t = eqb-true _ _ (sym (same_bytes a b) ∙ sym e ∙ t)

  pub other_kind : r ≡ sameb the_type a b → r ≡ false → byte_of a ≢ byte_of b
  other_kind e t = eqb-false _ _ (sym (same_bytes a b) ∙ sym e ∙ t)

  pub not_other : r ≡ not (sameb the_type a b) → r ≡ false → byte_of a ≡ byte_of b
  not_other e t = eqb-true _ _ (sym (same_bytes a b) ∙ not-false _ (sym e ∙ t))

  pub not_same : r ≡ not (sameb the_type a b) → r ≡ true → byte_of a ≢ byte_of b
  not_same e t = eqb-false _ _ (sym (same_bytes a b) ∙ not-true _ (sym e ∙ t))
