-- The relation is decided.
use mathlib.Core.Path.{◌≡◌, refl, ap, ap₂}
use mathlib.Core.Logic.{◌⊎◌, inl, inr}
use mathlib.Core.List.{List, [], ◌∷◌}
use mathlib.Core.Option.{Option, none, some}
use mathlib.Core.Option as option
use Prim.Native.Nat.{ℕ, ◌≤◌, ◌<◌}
use native.Mathlib.Omega.{arith}
use native.Mathlib.Decide.{ℕ_discrete, dec_lt, dec_le}
use Rattle.theory.specs.Expressions.{Expr, deadlock, act, sum, product, star}
use Rattle.theory.specs.Nodes.{Node, meaning}
use Rattle.theory.proofs.Search.{look_below}
use Rattle.theory.specs.LabelledCharts.{LabelledChart}
use Rattle.theory.specs.Texts.{Text}
use Rattle.theory.specs.PostOrders.{size}
use Rattle.theory.specs.TextTests.{written}
use Rattle.theory.specs.Remains.{Remains, over, next, pieces, AtVertex, RemainsAt}
use Rattle.theory.proofs.TextTests.{written_sound, written_complete}

-- two expressions are the same or not
clash : ◌≡◌ {A = ℕ} 0 1 → ⊥
clash z = omega arith

two : {d e f g : Expr} (k : Expr → Expr → Expr) → Dec (d ≡ f) → Dec (e ≡ g)
    → (k d e ≡ k f g → d ≡ f) → (k d e ≡ k f g → e ≡ g) → Dec (k d e ≡ k f g)
two k (yes p) (yes q) i j = yes (ap₂ k p q)
two k (yes p) (no h) i j = no (λ q. h (j q))
two k (no h) d i j = no (λ q. h (i q))

pub expr? : (e f : Expr) → Dec (e ≡ f)
expr? deadlock deadlock = yes refl
expr? deadlock (act b) = no (λ q. clash cc)
expr? deadlock (sum f g) = no (λ q. clash cc)
expr? deadlock (product f g) = no (λ q. clash cc)
expr? deadlock (star f g) = no (λ q. clash cc)
expr? (act a) deadlock = no (λ q. clash cc)
expr? (act a) (act b) = elim (ℕ_discrete a b) [ yes p ↦ yes (ap act p) | no h ↦ no (λ q. h cc) ]
expr? (act a) (sum f g) = no (λ q. clash cc)
expr? (act a) (product f g) = no (λ q. clash cc)
expr? (act a) (star f g) = no (λ q. clash cc)
expr? (sum d e) deadlock = no (λ q. clash cc)
expr? (sum d e) (act b) = no (λ q. clash cc)
expr? (sum d e) (sum f g) = two sum (expr? d f) (expr? e g) (λ q. cc) (λ q. cc)
expr? (sum d e) (product f g) = no (λ q. clash cc)
expr? (sum d e) (star f g) = no (λ q. clash cc)
expr? (product d e) deadlock = no (λ q. clash cc)
expr? (product d e) (act b) = no (λ q. clash cc)
expr? (product d e) (sum f g) = no (λ q. clash cc)
expr? (product d e) (product f g) = two product (expr? d f) (expr? e g) (λ q. cc) (λ q. cc)
expr? (product d e) (star f g) = no (λ q. clash cc)
expr? (star d e) deadlock = no (λ q. clash cc)
expr? (star d e) (act b) = no (λ q. clash cc)
expr? (star d e) (sum f g) = no (λ q. clash cc)
expr? (star d e) (product f g) = no (λ q. clash cc)
expr? (star d e) (star f g) = two star (expr? d f) (expr? e g) (λ q. cc) (λ q. cc)

-- a text
pub text? : (c : LabelledChart) (w back : ℕ) (e : Expr) → Dec (Text c w back e)
text? c w back e = elim (option.discrete expr? (written c (size e) w back) (some e)) [
  | yes q ↦ yes (written_sound c (size e) w back q)
  | no h ↦ no (λ t. h (written_complete c (size e) w back e t (omega arith)))
]

module _ (c : LabelledChart) (vertices : ℕ) (some_vertex : 0 < vertices) where
  pub remains_low : {es : List Expr} {v : ℕ} → Remains c vertices es v → v < vertices
  remains_low over = some_vertex
  remains_low (next b t r) = b

  at_end_lem : {v : ℕ} → Remains c vertices [] v → v ≡ 0
  at_end_lem over = refl

  first : {v : ℕ} {e : Expr} {es : List Expr} → Remains c vertices (e ∷ es) v
      → (v < vertices) × ((back : ℕ) × Text c v back e × Remains c vertices es back)
  first (next {back = back} b t r) = (b, (back, t, r))

  pub remains? : (es : List Expr) (v : ℕ) → Dec (Remains c vertices es v)
  remains? [] v = elim (ℕ_discrete v 0) [ yes q ↦ yes (rw q over) | no h ↦ no (λ r. h (at_end_lem r)) ]
  remains? (e ∷ es) v = go (dec_lt v vertices) (look_below (λ b. pair (text? c v b e) (remains? es b)) vertices)
    where
      pair : {A B : Type 0} → Dec A → Dec B → Dec (A × B)
      pair (yes a) (yes b) = yes (a, b)
      pair (yes a) (no h) = no (λ p. h p.1)
      pair (no h) d = no (λ p. h p.0)

      go : Dec (v < vertices)
          → ((b : ℕ) × (b < vertices) × (Text c v b e × Remains c vertices es b))
          ⊎ ((b : ℕ) → b < vertices → ¬ (Text c v b e × Remains c vertices es b))
          → Dec (Remains c vertices (e ∷ es) v)
      go (no h) d = no (λ r. h (first r).0)
      go (yes h) (inl (b, l, p)) = yes (next h p.0 p.1)
      go (yes h) (inr n) = no (λ r. let (b, t, s) = (first r).1 in n b (remains_low s) (t, s))

  pub remains-at? : (nd : ℕ → Node) (n u v : ℕ) → Dec (RemainsAt c vertices nd n u v)
  remains-at? nd n u v = go (dec_le u n) (remains? (pieces (meaning nd n u)) v)
    where
      go : Dec (u ≤ n) → Dec (AtVertex c vertices (meaning nd n u) v) → Dec (RemainsAt c vertices nd n u v)
      go (yes a) (yes b) = yes (meaning nd n u, (a, refl), b)
      go (yes a) (no h) = no (λ (ξ, m, r). h (rw (← m.1) at r))
      go (no h) d = no (λ (ξ, m, r). h m.0)

  -- its rows and columns
  pub remains_at_below : (nd : ℕ → Node) (n u v : ℕ) → RemainsAt c vertices nd n u v → (u ≤ n) × (v < vertices)
  remains_at_below nd n u v (ξ, m, r) = (m.0, remains_low r)
