-- Going over the members of a set, the lowest first: what they are related to, and the set written as bytes by it.
use Prim.Native.Nat.{ℕ, ◌≤◌, ◌<◌}
use mathlib.Core.Path.{◌≡◌, refl, sym, ◌∙◌, subst}
use mathlib.Core.Logic.Iff
use mathlib.Core.Logic.{◌≢◌, ◌⊎◌, inl, inr, ⊎_elim, ◌↔◌, by_cases}
use mathlib.Core.Bool.{Bool, true, not, true≢false}
use mathlib.Core.List.{List, ◌∷◌}
use native.Mathlib.Decide.{ℕ_discrete}
use borrow.Author.Tests.{not-true}
use Rattle.bits.specs.declared.sets.Set.{Set}
use Rattle.bits.specs.First.{First}
use Rattle.bits.specs.Sets.{Has, empty_set, Empty, Members, Union, size_of, BytesOf}
use Rattle.bits.specs.Listed.{members_of}
use Rattle.bits.proofs.Listed.{turn}
use Rattle.bits.proofs.Given.{Walk, left_within}
use Rattle.bits.proofs.Members.{⊎_map, none, lowest_empty, size_lt}
use Rattle.bits.proofs.SetBytes.{same_bits}

-- u is left of the set s, and then `fewer` is left
pub record Visit (s left : Set) (u : ℕ) (fewer : Set) : Type 0 where
  pub within : (x : ℕ) → Has left x → Has s x
  pub has : Has left u
  pub rest : (y : ℕ) → Has fewer y ↔ (Has left y × (y ≢ u))

pub visit_less : {s left fewer : Set} {u : ℕ} → Visit s left u fewer → size_of fewer < size_of left
visit_less {left = left} {fewer} {u} T = size_lt fewer left u (λ y h. ((T.rest y).0 h).0) T.has (λ h. ((T.rest u).0 h).1 refl)

-- a turn of a walk by `for u in set.members()`
pub visit : {s left fewer : Set} {us : List ℕ} {u : ℕ} → Walk s left us → members_of left ≡ u ∷ members_of fewer → Visit s left u fewer
visit {left = left} {fewer} {u = u} W e = let T = turn left fewer u e in record { within = left_within W; has = T.has; rest = T.rest }

-- where the test for nothing fails, something is there
pub not_empty : {s : Set} {b : Bool} → (b ≡ true) ↔ Empty s → not b ≡ true → ¬ Empty s
not_empty E n e = true≢false (sym (E.1 e) ∙ not-true _ n)

-- what is left of the set s, and v the lowest of it, or 128
pub record Left (s left : Set) (v : ℕ) : Type 0 where
  pub within : (x : ℕ) → Has left x → Has s x
  pub lowest : First (Has left) 0 128 v

-- at first all is left
pub left_all : {s : Set} {v : ℕ} → First (Has s) 0 128 v → Left s s v
left_all F = record { within = λ x h. h; lowest = F }

-- the lowest has its turn
pub left_next : {s left fewer : Set} {v : ℕ} → Left s left v → v < 128
    → ((u : ℕ) → First (Has left) 0 128 u → (y : ℕ) → Has fewer y ↔ (Has left y × (y ≢ u)))
    → Visit s left v fewer
left_next L h W = record { within = L.within; has = L.lowest.holds h; rest = W _ L.lowest }

-- and what is left after it is of the set too
pub left_after_visit : {s left fewer : Set} {v u : ℕ} → Visit s left v fewer → First (Has fewer) 0 128 u → Left s fewer u
left_after_visit T F = record { within = λ x h. T.within x ((T.rest x).0 h).0; lowest = F }

-- something is left below 128, and nothing at 128
pub left_some : {s left : Set} {v : ℕ} → Left s left v → v < 128 → ¬ Empty left
left_some {v = v} L h e = e v (L.lowest.holds h)

pub left_none : {s left : Set} {v : ℕ} → Left s left v → 128 ≤ v → Empty left
left_none L h = lowest_empty L.lowest h

-- w is related to a member of the set that is left no longer
pub record FromPast (R : ℕ → ℕ → Type 0) (s left : Set) (w : ℕ) : Type 0 where
  pub from : ℕ
  pub member : Has s from
  pub past : ¬ Has left from
  pub related : R from w

module _ {R : ℕ → ℕ → Type 0} {s : Set} where
  -- WHAT COMES from the members past: at first nothing
  pub past_none : {w : ℕ} → ¬ FromPast R s s w
  past_none g = g.past g.member

  -- after u, what was before, and what u is related to
  module _ {left fewer : Set} {u : ℕ} (T : Visit s left u fewer) where
    pub past_still : {w : ℕ} → FromPast R s left w → FromPast R s fewer w
    past_still g = record { from = g.from; member = g.member; past = λ z. g.past ((T.rest _).0 z).0; related = g.related }

    pub past_new : {w : ℕ} → R u w → FromPast R s fewer w
    past_new r = record { from = u; member = T.within u T.has; past = λ z. ((T.rest u).0 z).1 refl; related = r }

    pub past_or : {w : ℕ} → FromPast R s fewer w → FromPast R s left w ⊎ R u w
    past_or {w} g = by_cases (ℕ_discrete g.from u)
        (λ e. inr (subst (λ (x : ℕ). R x w) e g.related))
        (λ n. inl (record { from = g.from; member = g.member; past = λ z. g.past ((T.rest _).1 (z, n)); related = g.related }))

  -- in the end, all that a member is related to
  pub past_all : {left : Set} {w : ℕ} → Empty left → FromPast R s left w ↔ ((u : ℕ) × Has s u × R u w)
  past_all E = (λ g. (g.from, g.member, g.related), λ (u, m, r). record { from = u; member = m; past = E u; related = r })

  -- OF NUMBERS BELOW n that have come from them: those with H before u, and those with K from u
  pub past_more : {H K L : ℕ → Type 0} {left fewer : Set} {u : ℕ} (n : ℕ) → Visit s left u fewer
      → ((w : ℕ) → w < n → H w ↔ FromPast R s left w) → ((w : ℕ) → w < n → K w ↔ R u w) → ((w : ℕ) → L w ↔ (H w ⊎ K w))
      → (w : ℕ) → w < n → L w ↔ FromPast R s fewer w
  past_more n T M Q U w h = (
    (λ p. ⊎_elim (λ g. past_still T ((M w h).0 g)) (λ g. past_new T ((Q w h).0 g)) ((U w).0 p)),
    (λ g. (U w).1 (⊎_map (M w h).1 (Q w h).1 (past_or T g))),
  )

  -- A SET of what comes from them
  pub visits_none : {r : Set} → r ≡ empty_set → Members (FromPast R s s) r
  visits_none e = record { exactly = λ w h. ((λ p. absurd (none w (rw e at p))), (λ g. absurd (past_none g))) }

  pub visits_more : {left fewer t q r : Set} {u : ℕ} → Visit s left u fewer → Members (FromPast R s left) t → Members (R u) q → Union t q r
      → Members (FromPast R s fewer) r
  visits_more T M Q U = record { exactly = past_more 128 T M.exactly Q.exactly U }

  pub visits_all : {left r : Set} → Empty left → Members (FromPast R s left) r → Members (λ (w : ℕ). (u : ℕ) × Has s u × R u w) r
  visits_all E M = record { exactly = λ w h. Iff.trans (M.exactly w h) (past_all E) }

-- one answer
pub bytes_one : {s : Set} {r t : List ℕ} → BytesOf s r → BytesOf s t → r ≡ t
bytes_one {s} {r} {t} R T =
    same_bits 16 r t R.long T.long R.below T.below (λ w h. Iff.trans (R.exactly w h) (Iff.symm (T.exactly w h)))
