-- Each set of a table with what the later ones have.
use mathlib.Core.Path.{◌≡◌, subst}
use mathlib.Core.Logic.{◌⊎◌, inl, inr, ⊎_elim, by_cases, ◌↔◌}
use mathlib.Core.List.{List}
use Prim.Native.Nat.{ℕ, ◌+◌, ◌*◌, ◌≤◌, ◌<◌}
use native.Mathlib.Decide.{ℕ_discrete}
use native.Mathlib.Omega.{arith}
use lib.ListN.{length}
use Rattle.bits.specs.Tables.{HasRow, Gains}
use Rattle.bits.proofs.Gains.{gains_none, gains_as, gains_then}
use Rattle.witness.specs.Given.{NoneAbove, InLater}

-- of the sets from l on
abbrev pub Later : List ℕ → ℕ → ℕ → ℕ → Type 0
Later a l x y = (l ≤ x) × InLater a x y

pub later_none : {a : List ℕ} (top : ℕ) → NoneAbove a top → Gains (Later a top) a a
later_none top n = gains_none (λ x y (h, (m, g, l, k)). n m y (omega arith) l k)

pub later_more : {a t r : List ℕ} (l n : ℕ) → n ≡ l + 1 → n < 256 → 2 * n + 2 ≤ length a → Gains (Later a n) a t
    → Gains (λ (x y : ℕ). (x ≡ l) × HasRow t n y) t r → Gains (Later a l) a r
later_more {a} {t} l n e h i G H = gains_then G H (λ x y g. (to x y g, from x y g))
  where
    next : (y : ℕ) → y < 128 → HasRow t n y ↔ (HasRow a n y ⊎ Later a n n y)
    next y g = G.exactly n y (omega arith) g

    to : (x y : ℕ) → y < 128 → Later a n x y ⊎ ((x ≡ l) × HasRow t n y) → Later a l x y
    to x y g (inl (p, q)) = (omega arith, q)
    to x y g (inr (p, q)) = ⊎_elim (λ k. (omega arith, (n, omega arith, h, k))) (λ (j, (m, o, u, k)). (omega arith, (m, omega arith, u, k))) ((next y g).0 q)

    from : (x y : ℕ) → y < 128 → Later a l x y → Later a n x y ⊎ ((x ≡ l) × HasRow t n y)
    from x y g (j, (m, o, u, k)) =
        by_cases (ℕ_discrete x l)
        (λ z. inr (z, (next y g).1 (by_cases (ℕ_discrete m n) (λ d. inl (subst (λ (c : ℕ). HasRow a c y) d k)) (λ d. inr (omega arith, (m, omega arith, u, k))))))
        (λ z. inl (omega arith, (m, o, u, k)))

pub later_all : {a r : List ℕ} (l : ℕ) → l ≡ 0 → Gains (Later a l) a r → Gains (InLater a) a r
later_all l e = gains_as (λ x y g. (λ k. k.1, λ k. (omega arith, k)))
