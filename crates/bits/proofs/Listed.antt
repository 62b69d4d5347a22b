-- The bits of a word and the members of a set as lists, the lowest first, and a walk over them: at each turn the lowest of
-- what is left, which then is left no longer.
use mathlib.Core.Path.{◌≡◌, refl, sym, ap, ◌∙◌, subst}
use mathlib.Core.Logic.Iff
use mathlib.Core.Logic.{◌≢◌, ◌⊎◌, inl, inr, ⊎_elim, ◌↔◌, by_cases}
use mathlib.Core.Bool.{Bool, true, false, cond, true≢false}
use mathlib.Core.List.Memᴰ
use mathlib.Core.List.{List, [], ◌∷◌, ◌++◌, Memᴰ}
use Prim.Native.Nat.{ℕ, zero, suc, ◌+◌, ◌-◌, ◌%◌, ◌^◌, ◌≤◌, ◌<◌}
use native.Mathlib.Nat.{eq-or-lt_of_le}
use native.Mathlib.Decide.{dec_lt, ℕ_discrete}
use native.Mathlib.Omega.{arith}
use borrow.Author.Tests.{eq-eqb, eqb-true}
use Rattle.bits.specs.declared.sets.Set.{Set}
use Rattle.bits.specs.Bits.{list_from}
use Rattle.bits.specs.First.{First}
use Rattle.bits.specs.Words.{On, LowestOn, Without}
use Rattle.bits.specs.Sets.{half_of, Has, Empty}
use Rattle.bits.specs.Listed.{is_on, is_in, places_of, members_of}
use Rattle.bits.proofs.Words.{bit_below, no_bit, subset_le}
use Rattle.bits.proofs.Members.{zero_off, lowest_low, lowest_high, rest_low, rest_high}

-- what is not true is false
untrue : (b : Bool) → ¬ (b ≡ true) → b ≡ false
untrue true f = absurd (f refl)
untrue false f = refl

-- tests that say the same
same_tests : (a b : Bool) → (a ≡ true) ↔ (b ≡ true) → a ≡ b
same_tests true b f = sym (f.0 refl)
same_tests false b f = sym (untrue b (λ e. true≢false (sym (f.1 e))))

-- LISTS OF NUMBERS with p, of the n from i on
module _ (p : ℕ → Bool) where
  pub listed_has : (i n k : ℕ) → Memᴰ k (list_from p i n) → (i ≤ k) × (k < i + n) × (p k ≡ true)
  unfolding list_from
  listed_has i zero k m = absurd (Memᴰ.not-nil m)
  listed_has i (suc n) k m = go (p i) refl (listed_has (suc i) n k) m
    where
      later : (suc i ≤ k) × (k < suc i + n) × (p k ≡ true) → (i ≤ k) × (k < i + suc n) × (p k ≡ true)
      later (l, h, e) = (omega arith, omega arith, e)

      go : (b : Bool) → p i ≡ b → (Memᴰ k (list_from p (suc i) n) → (suc i ≤ k) × (k < suc i + n) × (p k ≡ true))
          → Memᴰ k (cond b (i ∷ list_from p (suc i) n) (list_from p (suc i) n)) → (i ≤ k) × (k < i + suc n) × (p k ≡ true)
      go true e next h = ⊎_elim (λ (q : k ≡ i). (omega arith, omega arith, ap p q ∙ e)) (λ t. later (next t)) (Memᴰ.cases_cons h)
      go false e next h = later (next h)

  pub has_listed : (i n k : ℕ) → i ≤ k → k < i + n → p k ≡ true → Memᴰ k (list_from p i n)
  unfolding list_from
  has_listed i zero k l h e = absurd (omega arith)
  has_listed i (suc n) k l h e = go (p i) refl (λ g. has_listed (suc i) n k g (omega arith) e) (eq-or-lt_of_le l)
    where
      go : (b : Bool) → p i ≡ b → (suc i ≤ k → Memᴰ k (list_from p (suc i) n)) → (i ≡ k) ⊎ (i < k)
          → Memᴰ k (cond b (i ∷ list_from p (suc i) n) (list_from p (suc i) n))
      go true q next (inl z) = Memᴰ.head (sym z)
      go true q next (inr g) = Memᴰ.tail (next g)
      go false q next (inl z) = absurd (true≢false (sym e ∙ ap p (sym z) ∙ q))
      go false q next (inr g) = next g

  -- none
  pub list_none : (i n : ℕ) → ((k : ℕ) → i ≤ k → k < i + n → ¬ (p k ≡ true)) → list_from p i n ≡ []
  unfolding list_from
  list_none i zero f = refl
  list_none i (suc n) f =
      rw (untrue (p i) (f i (omega arith) (omega arith))) (list_none (suc i) n (λ k l h. f k (omega (arith, l)) (omega (arith, h))))

  -- what such a list begins with
  list_head : (i n u : ℕ) (xs : List ℕ) → list_from p i n ≡ u ∷ xs
      → (i ≤ u) × (u < i + n) × (p u ≡ true) × ((k : ℕ) → i ≤ k → k < u → ¬ (p k ≡ true)) × (xs ≡ list_from p (suc u) (i + n - suc u))
  unfolding list_from
  list_head i zero u xs e = absurd (no_cons e)
    where
      no_cons : ¬ ([] ≡ u ∷ xs)
      no_cons e = cc
  list_head i (suc n) u xs e = go (p i) refl (list_head (suc i) n u xs) e
    where
      go : (b : Bool) → p i ≡ b
          → (list_from p (suc i) n ≡ u ∷ xs → (suc i ≤ u) × (u < suc i + n) × (p u ≡ true) × ((k : ℕ) → suc i ≤ k → k < u → ¬ (p k ≡ true)) × (xs ≡ list_from p (suc u) (suc i + n - suc u)))
          → cond b (i ∷ list_from p (suc i) n) (list_from p (suc i) n) ≡ u ∷ xs
          → (i ≤ u) × (u < i + suc n) × (p u ≡ true) × ((k : ℕ) → i ≤ k → k < u → ¬ (p k ≡ true)) × (xs ≡ list_from p (suc u) (i + suc n - suc u))
      go true q next e =
          let h : i ≡ u = cc in
          let t : list_from p (suc i) n ≡ xs = cc in
          let m : n ≡ i + suc n - suc u = omega (arith, h) in (
            omega (arith, h),
            omega (arith, h),
            sym (ap p h) ∙ q,
            λ k l z. absurd (omega (arith, l, z, h)),
            sym t ∙ ap (λ (x : ℕ). list_from p (suc x) n) h ∙ ap (list_from p (suc u)) m,
          )
      go false q next e =
          let (a, b, c, d, f) = next e in
          let m : suc i + n - suc u ≡ i + suc n - suc u = omega arith in (
            omega (arith, a),
            omega (arith, b),
            c,
            λ k l z. by_cases (ℕ_discrete k i) (λ (g : k ≡ i) y. true≢false (sym y ∙ ap p g ∙ q)) (λ g. d k (omega (arith, l, g)) z),
            f ∙ ap (list_from p (suc u)) m,
          )

  -- what stands before u in such a list
  pub list_before : (i n u : ℕ) (us l : List ℕ) → list_from p i n ≡ us ++ u ∷ l
      → (u < i + n) × ((k : ℕ) → Memᴰ k us ↔ ((i ≤ k) × (k < u) × (p k ≡ true)))
  list_before i n u [] l e =
      let (a, b, c, d, f) = list_head i n u l e in
      (b, λ k. ((λ m. absurd (Memᴰ.not-nil m)), (λ (g, h, y). absurd (d k g h y))))
  list_before i n u (x ∷ us) l e =
      let (a, b, c, d, f) = list_head i n x (us ++ u ∷ l) e in
      let (g, I) = list_before (suc x) (i + n - suc x) u us l (sym f) in (
        omega (arith, g, b),
        λ k. (
          (λ m. ⊎_elim
              (λ (z : k ≡ x). (omega (arith, a, z), below k x z (listed_has (suc x) (i + n - suc x) u (subst (Memᴰ u) f (Memᴰ.append_right us (Memᴰ.head refl)))).0, ap p z ∙ c))
              (λ t. let (q, r, y) = (I k).0 t in (omega (arith, a, q), r, y))
              (Memᴰ.cases_cons m)),
          (λ (q, r, y). by_cases (ℕ_discrete k x)
              (λ z. Memᴰ.head z)
              (λ z. Memᴰ.tail ((I k).1 (above k q y z d, r, y)))),
        ),
      )
    where
      below : (k x : ℕ) → k ≡ x → suc x ≤ u → k < u
      below k x z h = omega arith

      above : (k : ℕ) → i ≤ k → p k ≡ true → k ≢ x → ((j : ℕ) → i ≤ j → j < x → ¬ (p j ≡ true)) → suc x ≤ k
      above k q y z d = by_cases (dec_lt k x) (λ h. absurd (d k q h y)) (λ h. omega (arith, h, z))

-- the same list of two tests that say the same of its numbers
pub list_same : (p q : ℕ → Bool) (i n : ℕ) → ((k : ℕ) → i ≤ k → k < i + n → p k ≡ q k) → list_from p i n ≡ list_from q i n
unfolding list_from
list_same p q i zero f = refl
list_same p q i (suc n) f =
    ap (λ (b : Bool). cond b (i ∷ list_from p (suc i) n) (list_from p (suc i) n)) (f i (omega arith) (omega arith))
    ∙ ap (λ (l : List ℕ). cond (q i) (i ∷ l) l) (list_same p q (suc i) n (λ k l h. f k (omega (arith, l)) (omega (arith, h))))

-- q has what p has but u, the first
module _ (p q : ℕ → Bool) (u : ℕ) where
  pub list_next : (i n : ℕ) → i ≤ u → u < i + n → p u ≡ true → ((k : ℕ) → k < u → ¬ (p k ≡ true))
      → ((k : ℕ) → k < i + n → (q k ≡ true) ↔ ((p k ≡ true) × (k ≢ u))) → list_from p i n ≡ u ∷ list_from q i n
  unfolding list_from
  list_next i zero l h e f g = absurd (omega (arith, l, h))
  list_next i (suc n) l h e f g =
      ⊎_elim here (λ z. there z (list_next (suc i) n z (omega (arith, h)) e f (λ k o. g k (omega (arith, o))))) (eq-or-lt_of_le l)
    where
      here : i ≡ u → list_from p i (suc n) ≡ u ∷ list_from q i (suc n)
      here z =
          let a : p i ≡ true = ap p z ∙ e in
          let b : q i ≡ false = untrue (q i) (λ y. ((g i (omega arith)).0 y).1 z) in
          let t : list_from p (suc i) n ≡ list_from q (suc i) n = list_same p q (suc i) n
          (λ k m o. same_tests (p k) (q k) (
            (λ y. (g k (omega (arith, o))).1 (y, λ x. omega (arith, x, z, m))),
            (λ y. ((g k (omega (arith, o))).0 y).0),
          )) in
          rw (a, b) (ap (λ (l : List ℕ). i ∷ l) t ∙ ap (λ (x : ℕ). x ∷ list_from q (suc i) n) z)

      there : i < u → list_from p (suc i) n ≡ u ∷ list_from q (suc i) n → list_from p i (suc n) ≡ u ∷ list_from q i (suc n)
      there z t =
          let a : p i ≡ false = untrue (p i) (f i z) in
          let b : q i ≡ false = untrue (q i) (λ y. f i z ((g i (omega arith)).0 y).0) in
          rw (a, b) t

  pub next_list : (n : ℕ) → list_from p 0 n ≡ u ∷ list_from q 0 n
      → (u < n) × (p u ≡ true) × ((k : ℕ) → k < u → ¬ (p k ≡ true)) × ((k : ℕ) → k < n → (q k ≡ true) ↔ ((p k ≡ true) × (k ≢ u)))
  next_list n e =
      let (a, b, c, d, f) = list_head p 0 n u (list_from q 0 n) e in
      (omega (arith, b), c, (λ k l. d k (omega arith) l), λ k l. (to k l f, from k l f (λ m. d k (omega arith) m)))
    where
      to : (k : ℕ) → k < n → list_from q 0 n ≡ list_from p (suc u) (0 + n - suc u) → q k ≡ true → (p k ≡ true) × (k ≢ u)
      to k l f y =
          let (g, h, z) = listed_has p (suc u) (0 + n - suc u) k (subst (Memᴰ k) f (has_listed q 0 n k (omega arith) (omega (arith, l)) y)) in
          (z, λ x. omega (arith, x, g))

      from : (k : ℕ) → k < n → list_from q 0 n ≡ list_from p (suc u) (0 + n - suc u) → (k < u → ¬ (p k ≡ true)) → (p k ≡ true) × (k ≢ u) → q k ≡ true
      from k l f d (y, m) = by_cases (dec_lt k u)
          (λ h. absurd (d h y))
          (λ h. (listed_has q 0 n k (subst (Memᴰ k) (sym f) (has_listed p (suc u) (0 + n - suc u) k (omega (arith, h, m)) (omega (arith, l, h, m)) y))).2)

-- THE BITS OF A WORD
on_test : (x k : ℕ) → (is_on x k ≡ true) ↔ On x k
on_test x k = (eqb-true _ 1, eq-eqb _ 1)

pub places_none : (x : ℕ) → x ≡ 0 → places_of x ≡ []
unfolding places_of
places_none x e = list_none (is_on x) 0 64 (λ k l h y. zero_off k (rw e at ((on_test x k).0 y)))

-- the list has the places of its bits, and no other number
pub place_listed : (x k : ℕ) → k < 64 → On x k → Memᴰ k (places_of x)
unfolding places_of
place_listed x k h on = has_listed (is_on x) 0 64 k (omega arith) (omega (arith, h)) ((on_test x k).1 on)

pub listed_place : (x k : ℕ) → Memᴰ k (places_of x) → (k < 64) × On x k
unfolding places_of
listed_place x k m = let (l, h, e) = listed_has (is_on x) 0 64 k m in (omega (arith, h), (on_test x k).0 e)

pub places_below : (x : ℕ) {ks : List ℕ} {k : ℕ} (l : List ℕ) → places_of x ≡ ks ++ k ∷ l → (j : ℕ) → Memᴰ j ks ↔ (On x j × (j < k))
unfolding places_of
places_below x {ks} {k} l e j =
    let (b, I) = list_before (is_on x) 0 64 k ks l e in (
      (λ m. let (q, r, y) = (I j).0 m in ((on_test x j).0 y, r)),
      (λ (on, r). (I j).1 (omega arith, r, (on_test x j).1 on)),
    )

pub none_places : (x : ℕ) → x < 2 ^ 64 → places_of x ≡ [] → x ≡ 0
none_places x f e = no_bit 64 x f (λ k h on. Memᴰ.not-nil (subst (Memᴰ k) e (place_listed x k h on)))

-- the lowest bit comes, and then the others
pub places_next : {x k r : ℕ} → LowestOn x k → Without x k r → places_of x ≡ k ∷ places_of r
unfolding places_of
places_next {x} {k} {r} L W = list_next (is_on x) (is_on r) k 0 64 (omega arith) (omega (arith, L.within)) ((on_test x k).1 L.on)
    (λ j l y. L.below j l ((on_test x j).0 y))
    (λ j l. (
      (λ y. let (o, n) = (W.exactly j).0 ((on_test r j).0 y) in ((on_test x j).1 o, n)),
      (λ (y, n). (on_test r j).1 ((W.exactly j).1 ((on_test x j).0 y, n))),
    ))

pub next_places : {x k r : ℕ} → x < 2 ^ 64 → r < 2 ^ 64 → places_of x ≡ k ∷ places_of r → LowestOn x k × Without x k r
unfolding places_of
next_places {x} {k} {r} f g e = (L, record { exactly = W; less = λ on. less })
  where
    N : (k < 64) × (is_on x k ≡ true) × ((j : ℕ) → j < k → ¬ (is_on x j ≡ true)) × ((j : ℕ) → j < 64 → (is_on r j ≡ true) ↔ ((is_on x j ≡ true) × (j ≢ k)))
    N = next_list (is_on x) (is_on r) k 64 e

    L : LowestOn x k
    L = record { within = N.0; on = (on_test x k).0 N.1; below = λ j l o. N.2 j l ((on_test x j).1 o) }

    W : (j : ℕ) → On r j ↔ (On x j × (j ≢ k))
    W j = (
      (λ o. let (y, n) = (N.3 j (bit_below 64 r j g o)).0 ((on_test r j).1 o) in ((on_test x j).0 y, n)),
      (λ (o, n). (on_test r j).0 ((N.3 j (bit_below 64 x j f o)).1 ((on_test x j).1 o, n))),
    )

    less : r < x
    less =
        let l : r ≤ x = subset_le r x (λ j o. ((W j).0 o).0) in
        let n : r ≢ x = λ z. ((W k).0 (subst (λ (y : ℕ). On y k) (sym z) L.on)).1 refl in
        omega arith

-- THE MEMBERS OF A SET
in_test : (s : Set) (w : ℕ) → w < 128 → (is_in s w ≡ true) ↔ Has s w
in_test s w h = Iff.trans (on_test (half_of s w) (w % 64)) ((λ on. record { below = h; on = on }), (λ m. m.on))

pub members_none : (s : Set) → Empty s → members_of s ≡ []
unfolding members_of
members_none s E = list_none (is_in s) 0 128 (λ w l h y. E w ((in_test s w (omega (arith, h))).0 y))

-- the list has the members, and no other number
pub member_listed : (s : Set) (w : ℕ) → Has s w → Memᴰ w (members_of s)
unfolding members_of
member_listed s w m = has_listed (is_in s) 0 128 w (omega arith) (omega (arith, m.below)) ((in_test s w m.below).1 m)

pub listed_member : (s : Set) (w : ℕ) → Memᴰ w (members_of s) → Has s w
unfolding members_of
listed_member s w m = let (l, h, e) = listed_has (is_in s) 0 128 w m in (in_test s w (omega (arith, h))).0 e

pub none_members : (s : Set) → members_of s ≡ [] → Empty s
none_members s e w m = Memᴰ.not-nil (subst (Memᴰ w) e (member_listed s w m))

pub members_below : {s : Set} {us : List ℕ} {u : ℕ} (l : List ℕ) → members_of s ≡ us ++ u ∷ l → (k : ℕ) → Memᴰ k us ↔ (Has s k × (k < u))
unfolding members_of
members_below {s} {us} {u} l e k =
    let (b, I) = list_before (is_in s) 0 128 u us l e in (
      (λ m. let (q, r, y) = (I k).0 m in ((in_test s k (omega (arith, r, b))).0 y, r)),
      (λ (m, r). (I k).1 (omega arith, r, (in_test s k m.below).1 m)),
    )

-- the lowest member comes, and then the others
pub members_next : {s t : Set} {u : ℕ} → First (Has s) 0 128 u → u < 128 → ((y : ℕ) → Has t y ↔ (Has s y × (y ≢ u))) → members_of s ≡ u ∷ members_of t
unfolding members_of
members_next {s} {t} {u} F h W = list_next (is_in s) (is_in t) u 0 128 (omega arith) (omega (arith, h)) ((in_test s u h).1 (F.holds h))
    (λ j l y. F.before j (omega arith) l ((in_test s j (omega (arith, l, h))).0 y))
    (λ j l. let b : j < 128 = omega (arith, l) in (
      (λ y. let (o, n) = (W j).0 ((in_test t j b).0 y) in ((in_test s j b).1 o, n)),
      (λ (y, n). (in_test t j b).1 ((W j).1 ((in_test s j b).0 y, n))),
    ))

module _ (s t : Set) (u : ℕ) where
  next_members : members_of s ≡ u ∷ members_of t → (u < 128) × (is_in s u ≡ true) × ((j : ℕ) → j < u → ¬ (is_in s j ≡ true)) × ((j : ℕ) → j < 128 → (is_in t j ≡ true) ↔ ((is_in s j ≡ true) × (j ≢ u)))
  unfolding members_of
  next_members e = next_list (is_in s) (is_in t) u 128 e

-- the lowest member has had its turn: u was left, no lower number was, and the others are left
pub record Turn (left : Set) (u : ℕ) (fewer : Set) : Type 0 where
  pub first : First (Has left) 0 128 u
  pub has : Has left u
  pub rest : (y : ℕ) → Has fewer y ↔ (Has left y × (y ≢ u))

pub turn : (s t : Set) (u : ℕ) → members_of s ≡ u ∷ members_of t → Turn s u t
turn s t u e = let N = next_members s t u e in let H : Has s u = (in_test s u N.0).0 N.1 in record {
  first = record { from = omega arith; within = omega (arith, N.0); holds = λ h. H; before = λ j a l m. N.2 j l ((in_test s j m.below).1 m) };
  has = H;
  rest = λ y. (
    (λ m. let (o, n) = (N.3 y m.below).0 ((in_test t y m.below).1 m) in ((in_test s y m.below).0 o, n)),
    (λ (m, n). (in_test t y m.below).0 ((N.3 y m.below).1 ((in_test s y m.below).1 m, n))),
  );
}

-- in the first word, or in the second where there is none in the first
pub low_next : (s : Set) {k r : ℕ} → s.lo ≢ 0 → s.lo < 2 ^ 64 → LowestOn s.lo k → ((k : ℕ) → LowestOn s.lo k → Without s.lo k r)
    → members_of s ≡ k ∷ members_of (record { lo = r; hi = s.hi })
low_next s {k} n f L W =
    let F = lowest_low s k L in
    members_next F (omega (arith, L.within)) (rest_low s n f W k F)

pub high_next : (s : Set) {k r : ℕ} → s.lo ≡ 0 → LowestOn s.hi k → ((k : ℕ) → LowestOn s.hi k → Without s.hi k r)
    → members_of s ≡ (64 + k) ∷ members_of (record { lo = s.lo; hi = r })
high_next s {k} e L W =
    let F = lowest_high s k e L in
    let m : 64 + k < 128 = omega (arith, L.within) in
    members_next F m (rest_high s e (λ E. E (64 + k) (F.holds m)) W (64 + k) F)
