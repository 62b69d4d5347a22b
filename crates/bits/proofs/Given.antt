-- Walks by `for u in set.members()` and `for k in places(x)`: what has been given already, and what comes from it.
use mathlib.Core.Path.{◌≡◌, refl, sym, ap, ◌∙◌, subst}
use mathlib.Core.Logic.Iff
use mathlib.Core.Logic.{◌⊎◌, inl, inr, ⊎_elim, ◌↔◌}
use mathlib.Core.List.Memᴰ
use mathlib.Core.List.{List, [], ◌∷◌, ◌++◌, Memᴰ}
use Prim.Native.Nat.{ℕ, ◌^◌, ◌<◌}
use Rattle.std.proofs.lemmas.List.{append-nil}
use Rattle.std.specs.Iterator.{Yields, YieldsFirst}
use Rattle.bits.specs.declared.sets.Set.{Set}
use Rattle.bits.specs.declared.walks.BitPlaces.{BitPlaces}
use Rattle.bits.specs.declared.walks.Numbers.{Numbers}
use Rattle.bits.specs.Words.{On}
use Rattle.bits.specs.Sets.{Has, empty_set, Members, Union}
use Rattle.bits.specs.Listed.{members_of, members_left, places_of, places_left}
use Rattle.bits.proofs.Words.{bit_below}
use Rattle.bits.proofs.Members.{⊎_map, none}
use Rattle.bits.proofs.Listed.{member_listed, listed_member, members_below, place_listed, listed_place, places_below}

-- a list with one number more at its end
pub one_more : {us : List ℕ} {u x : ℕ} → Memᴰ x (us ++ u ∷ []) → Memᴰ x us ⊎ (x ≡ u)
one_more {us} m = ⊎_elim inl (λ n. ⊎_elim inr (λ z. absurd (Memᴰ.not-nil z)) (Memᴰ.cases_cons n)) (Memᴰ.append_cases us m)

pub more_one : {us : List ℕ} {u x : ℕ} → Memᴰ x us ⊎ (x ≡ u) → Memᴰ x (us ++ u ∷ [])
more_one {us} {u} (inl m) = Memᴰ.append_left (u ∷ []) m
more_one {us} (inr e) = Memᴰ.append_right us (Memᴰ.head e)

-- A WALK by `for u in set.members()`: what it has given already, and what is left, are the members
pub record Walk (s left : Set) (us : List ℕ) : Type 0 where
  pub is : members_of s ≡ us ++ members_of left

-- the loop's own facts: what `into_iter` gives, what `members` promises, and how the items came
pub walk : {set : Set} {m n t : Numbers} {us : List ℕ} → n ≡ m → m ≡ record { left = set } → Yields (YieldsFirst members_left) n us t
    → Walk set t.left us
walk {set} {m} {n} {t} {us} e f Y = record { is = sym (ap members_left (e ∙ f)) ∙ go n us Y }
  where
    go : (n : Numbers) (us : List ℕ) → Yields (YieldsFirst members_left) n us t → members_of n.left ≡ us ++ members_of t.left
    go n [] y = ap members_left y
    go n (u ∷ us) y = y.1 ∙ ap (λ (l : List ℕ). u ∷ l) (go y.0 us y.2)

-- at first all is left
pub walk_starts : {set : Set} {m n : Numbers} → n ≡ m → m ≡ record { left = set } → n.left ≡ set
walk_starts e f = ap (λ (n : Numbers). n.left) (e ∙ f)

module _ {s left : Set} {us : List ℕ} (W : Walk s left us) where
  -- what is left is of the set
  pub left_within : (x : ℕ) → Has left x → Has s x
  left_within x m = listed_member s x (subst (Memᴰ x) (sym W.is) (Memᴰ.append_right us (member_listed left x m)))

  -- what is given is of the set, and what has been given already are the members below it
  pub given_has : {u : ℕ} {l : List ℕ} → members_of left ≡ u ∷ l → Has s u
  given_has {u} e = left_within u (listed_member left u (subst (Memᴰ u) (sym e) (Memᴰ.head refl)))

  pub given_below : {u : ℕ} (l : List ℕ) → members_of left ≡ u ∷ l → (k : ℕ) → Memᴰ k us ↔ (Has s k × (k < u))
  given_below l e = members_below l (W.is ∙ ap (λ (l : List ℕ). us ++ l) e)

  -- its end
  pub all_given : members_of left ≡ [] → members_of s ≡ us
  all_given e = W.is ∙ ap (λ (l : List ℕ). us ++ l) e ∙ append-nil us

-- the same by `for k in places(x)`: the bits of a word
pub record Scan (x left : ℕ) (ks : List ℕ) : Type 0 where
  pub is : places_of x ≡ ks ++ places_of left

pub scan : {x : ℕ} {m n t : BitPlaces} {ks : List ℕ} → n ≡ m → m ≡ record { left = x } → Yields (YieldsFirst places_left) n ks t
    → Scan x t.left ks
scan {x} {m} {n} {t} {ks} e f Y = record { is = sym (ap places_left (e ∙ f)) ∙ go n ks Y }
  where
    go : (n : BitPlaces) (ks : List ℕ) → Yields (YieldsFirst places_left) n ks t → places_of n.left ≡ ks ++ places_of t.left
    go n [] y = ap places_left y
    go n (k ∷ ks) y = y.1 ∙ ap (λ (l : List ℕ). k ∷ l) (go y.0 ks y.2)

module _ {x left : ℕ} {ks : List ℕ} (S : Scan x left ks) where
  pub scan_on : {k : ℕ} {l : List ℕ} → places_of left ≡ k ∷ l → (k < 64) × On x k
  scan_on {k} {l} e = listed_place x k (subst (Memᴰ k) (sym (S.is ∙ ap (λ (l : List ℕ). ks ++ l) e)) (Memᴰ.append_right ks (Memᴰ.head refl)))

  pub scan_below : {k : ℕ} (l : List ℕ) → places_of left ≡ k ∷ l → (j : ℕ) → Memᴰ j ks ↔ (On x j × (j < k))
  scan_below l e = places_below x l (S.is ∙ ap (λ (l : List ℕ). ks ++ l) e)

  pub all_places : places_of left ≡ [] → places_of x ≡ ks
  all_places e = S.is ∙ ap (λ (l : List ℕ). ks ++ l) e ∙ append-nil ks

-- WHAT COMES from the numbers that have been given: w is related to one of them
pub record FromGiven (R : ℕ → ℕ → Type 0) (us : List ℕ) (w : ℕ) : Type 0 where
  pub from : ℕ
  pub given : Memᴰ from us
  pub related : R from w

module _ {R : ℕ → ℕ → Type 0} where
  -- at first nothing
  pub given_none : {w : ℕ} → ¬ FromGiven R [] w
  given_none g = Memᴰ.not-nil g.given

  -- after u, what was before, and what u is related to
  pub given_more : {us : List ℕ} (u : ℕ) {w : ℕ} → FromGiven R (us ++ u ∷ []) w ↔ (FromGiven R us w ⊎ R u w)
  given_more {us} u {w} = (
    (λ g. ⊎_elim (λ m. inl (record { from = g.from; given = m; related = g.related })) (λ e. inr (subst (λ (x : ℕ). R x w) e g.related)) (one_more g.given)),
    ⊎_elim (λ g. record { from = g.from; given = more_one (inl g.given); related = g.related }) (λ r. record { from = u; given = more_one (inr refl); related = r }),
  )

  -- in the end, all that a member, or a bit, is related to
  pub given_members : {s : Set} {us : List ℕ} {w : ℕ} → members_of s ≡ us → FromGiven R us w ↔ ((u : ℕ) × Has s u × R u w)
  given_members {s} {us} e = (
    (λ g. (g.from, listed_member s g.from (subst (Memᴰ g.from) (sym e) g.given), g.related)),
    (λ (u, m, r). record { from = u; given = subst (Memᴰ u) e (member_listed s u m); related = r }),
  )

  pub given_places : {x : ℕ} {ks : List ℕ} {w : ℕ} → x < 2 ^ 64 → places_of x ≡ ks → FromGiven R ks w ↔ ((k : ℕ) × On x k × R k w)
  given_places {x} {ks} f e = (
    (λ g. (g.from, (listed_place x g.from (subst (Memᴰ g.from) (sym e) g.given)).1, g.related)),
    (λ (k, on, r). record { from = k; given = subst (Memᴰ k) e (place_listed x k (bit_below 64 x k f on) on); related = r }),
  )

  -- OF NUMBERS BELOW n that have come from them: those with H before u, and those with K from u
  pub given_grow : {H K L : ℕ → Type 0} {us : List ℕ} {u : ℕ} (n : ℕ)
      → ((w : ℕ) → w < n → H w ↔ FromGiven R us w) → ((w : ℕ) → w < n → K w ↔ R u w) → ((w : ℕ) → L w ↔ (H w ⊎ K w))
      → (w : ℕ) → w < n → L w ↔ FromGiven R (us ++ u ∷ []) w
  given_grow {u = u} n M Q U w h = (
    (λ p. (given_more u).1 (⊎_map (M w h).0 (Q w h).0 ((U w).0 p))),
    (λ g. (U w).1 (⊎_map (M w h).1 (Q w h).1 ((given_more u).0 g))),
  )

  -- A SET of what comes from them
  pub gives_none : {r : Set} → r ≡ empty_set → Members (FromGiven R []) r
  gives_none e = record { exactly = λ w h. ((λ p. absurd (none w (rw e at p))), (λ g. absurd (given_none g))) }

  pub gives_more : {us : List ℕ} {u : ℕ} {t q r : Set} → Members (FromGiven R us) t → Members (R u) q → Union t q r
      → Members (FromGiven R (us ++ u ∷ [])) r
  gives_more M Q U = record { exactly = given_grow 128 M.exactly Q.exactly U }

  pub gives_members : {s r : Set} {us : List ℕ} → members_of s ≡ us → Members (FromGiven R us) r → Members (λ (w : ℕ). (u : ℕ) × Has s u × R u w) r
  gives_members e M = record { exactly = λ w h. Iff.trans (M.exactly w h) (given_members e) }

  pub gives_places : {x : ℕ} {r : Set} {ks : List ℕ} → x < 2 ^ 64 → places_of x ≡ ks → Members (FromGiven R ks) r
      → Members (λ (w : ℕ). (k : ℕ) × On x k × R k w) r
  gives_places f e M = record { exactly = λ w h. Iff.trans (M.exactly w h) (given_places f e) }
