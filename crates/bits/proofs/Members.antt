-- Sets of the numbers below 128, by the bits of their two words.
use mathlib.Core.Path.{◌≡◌, refl, sym, ◌∙◌, ap, subst}
use mathlib.Core.Logic.Iff
use mathlib.Core.Logic.{◌≢◌, ◌⊎◌, inl, inr, ⊎_elim, ◌↔◌, by_cases}
use mathlib.Core.Bool.{Bool, true, false, cond, ◌&&◌, false≢true}
use Prim.Native.Nat.{ℕ, ◌+◌, ◌-◌, ◌/◌, ◌%◌, ◌^◌, ◌≤◌, ◌<◌}
use native.Mathlib.Omega.{arith}
use native.Mathlib.Decide.{dec_lt, ℕ_discrete}
use borrow.Author.Tests.{lt-ltb, le-ltb, ltb-true, ltb-false, eqb-true, eq-eqb}
use mathlib.Core.List.{List}
use lib.Dec.{ltb, eqb}
use lib.ListN.{get_or}
use Rattle.bits.specs.declared.sets.Set.{Set}
use Rattle.bits.specs.Words.{On, LowestOn, HighestOn, With, Without}
use Rattle.bits.specs.First.{First}
use Rattle.bits.specs.Packed.{Packed}
use Rattle.bits.specs.Sets.{half_of, Has, empty_set, Empty, Members, SameMembers, Union, Intersection, Difference, Last}
use Rattle.bits.specs.Sets.{SetFits, size_of}
use Rattle.std.proofs.lemmas.Nat.Bits.{bit_at-lt, bit_at-zero, same_from_bits}
use Rattle.bits.proofs.Words.{no_bit, bit_below}
use Rattle.bits.proofs.Counts.{bits_lt, bits_few}

-- one side of a choice, told otherwise
pub ⊎_map : {A B C D : Type 0} → (A → C) → (B → D) → A ⊎ B → C ⊎ D
⊎_map f g (inl a) = inl (f a)
⊎_map f g (inr b) = inr (g b)

-- two tests, both passed
pub both : (p q : Bool) {P Q : Type 0} → (p ≡ true) ↔ P → (q ≡ true) ↔ Q → ((p && q) ≡ true) ↔ (P × Q)
both true q f g = ((λ h. (f.0 refl, g.0 h)), (λ (a, b). g.1 b))
both false q f g = ((λ h. absurd (false≢true h)), (λ (a, b). f.1 a))

both_equal : (w x y z : ℕ) → ((eqb w x && eqb y z) ≡ true) ↔ ((w ≡ x) × (y ≡ z))
both_equal w x y z = both (eqb w x) (eqb y z) (eqb-true w x, eq-eqb w x) (eqb-true y z, eq-eqb y z)

-- no bit of 0 is set
pub zero_off : (k : ℕ) → ¬ On 0 k
zero_off k h = omega (arith, bit_at-zero k, h)

-- nothing is in the empty set
pub none : Empty empty_set
none w h = off (ltb w 64) h.on
  where
    off : (b : Bool) → ¬ On (cond b 0 0) (w % 64)
    off true h = zero_off (w % 64) h
    off false h = zero_off (w % 64) h

-- what holds of the bits of the words holds of the bit of each number
module _ (F : Type 0 → Type 0 → Type 0) where
  halves : (s t r : Set) → ((j : ℕ) → On r.lo j ↔ F (On s.lo j) (On t.lo j)) → ((j : ℕ) → On r.hi j ↔ F (On s.hi j) (On t.hi j))
      → (w : ℕ) → On (half_of r w) (w % 64) ↔ F (On (half_of s w) (w % 64)) (On (half_of t w) (w % 64))
  halves s t r f g w = pick (ltb w 64)
    where
      pick : (b : Bool) → On (cond b r.lo r.hi) (w % 64) ↔ F (On (cond b s.lo s.hi) (w % 64)) (On (cond b t.lo t.hi) (w % 64))
      pick true = f (w % 64)
      pick false = g (w % 64)

pub union_law : (s t r : Set) → ((j : ℕ) → On r.lo j ↔ (On s.lo j ⊎ On t.lo j)) → ((j : ℕ) → On r.hi j ↔ (On s.hi j ⊎ On t.hi j)) → Union s t r
union_law s t r f g w =
    let W = halves (λ A B. A ⊎ B) s t r f g w in
    ((λ h. ⊎_map (λ o. record { below = h.below; on = o }) (λ o. record { below = h.below; on = o }) (W.0 h.on)), back W)
  where
    back : (On (half_of r w) (w % 64) ↔ (On (half_of s w) (w % 64) ⊎ On (half_of t w) (w % 64))) → Has s w ⊎ Has t w → Has r w
    back W (inl h) = record { below = h.below; on = W.1 (inl h.on) }
    back W (inr h) = record { below = h.below; on = W.1 (inr h.on) }

pub intersection_law : (s t r : Set) → ((j : ℕ) → On r.lo j ↔ (On s.lo j × On t.lo j)) → ((j : ℕ) → On r.hi j ↔ (On s.hi j × On t.hi j)) → Intersection s t r
intersection_law s t r f g w =
    let W = halves (λ A B. A × B) s t r f g w in (
      (λ h. (record { below = h.below; on = (W.0 h.on).0 }, record { below = h.below; on = (W.0 h.on).1 })),
      (λ (h, k). record { below = h.below; on = W.1 (h.on, k.on) }),
    )

pub difference_law : (s t r : Set) → ((j : ℕ) → On r.lo j ↔ (On s.lo j × (¬ On t.lo j))) → ((j : ℕ) → On r.hi j ↔ (On s.hi j × (¬ On t.hi j))) → Difference s t r
difference_law s t r f g w =
    let W = halves (λ A B. A × (¬ B)) s t r f g w in (
      (λ h. (record { below = h.below; on = (W.0 h.on).0 }, λ k. (W.0 h.on).1 k.on)),
      (λ (h, k). record { below = h.below; on = W.1 (h.on, λ o. k (record { below = h.below; on = o })) }),
    )

-- one number more, in the word of the two that has its bit
pub with_law : (s : Set) (w : ℕ) (r : Set) → w < 128 → ((j : ℕ) → On r.lo j ↔ (On s.lo j ⊎ ((w < 64) × (j ≡ w)))) → ((j : ℕ) → On r.hi j ↔ (On s.hi j ⊎ (64 + j ≡ w))) → (y : ℕ) → Has r y ↔ (Has s y ⊎ (y ≡ w))
with_law s w r m f g y = ((λ h. ⊎_map (λ o. record { below = h.below; on = o }) (λ e. e) ((pick (ltb y 64) refl h.below).0 h.on)), back)
  where
    pick : (b : Bool) → ltb y 64 ≡ b → y < 128 → On (cond b r.lo r.hi) (y % 64) ↔ (On (cond b s.lo s.hi) (y % 64) ⊎ (y ≡ w))
    pick true e l = let h = ltb-true y 64 e in ((λ on. ⊎_map (λ o. o) (λ p. omega (arith, h, p.1)) ((f (y % 64)).0 on)), (λ p. (f (y % 64)).1 (⊎_map (λ o. o) (λ q. (omega (arith, h, q), omega (arith, h, q))) p)))
    pick false e l = let h = ltb-false y 64 e in ((λ on. ⊎_map (λ o. o) (λ p. omega (arith, h, p, l)) ((g (y % 64)).0 on)), (λ p. (g (y % 64)).1 (⊎_map (λ o. o) (λ q. omega (arith, h, q, l)) p)))

    back : Has s y ⊎ (y ≡ w) → Has r y
    back (inl h) = record { below = h.below; on = (pick (ltb y 64) refl h.below).1 (inl h.on) }
    back (inr e) = record { below = omega (arith, e, m); on = (pick (ltb y 64) refl (omega (arith, e, m))).1 (inr e) }

-- a bit of a word is a number of the set
pub low_has : (s : Set) (k : ℕ) → k < 64 → On s.lo k → Has s k
low_has s k h on = let e : k % 64 ≡ k = omega (arith, h) in record { below = omega (arith, h); on = rw (lt-ltb k 64 h, e) on }

pub high_has : (s : Set) (k : ℕ) → k < 64 → On s.hi k → Has s (64 + k)
high_has s k h on = let e : (64 + k) % 64 ≡ k = omega (arith, h) in record { below = omega (arith, h); on = rw (le-ltb (64 + k) 64 (omega arith), e) on }

pub has_low : (s : Set) (k : ℕ) → k < 64 → Has s k → On s.lo k
has_low s k h on = let e : k % 64 ≡ k = omega (arith, h) in rw (lt-ltb k 64 h, e) at on.on

pub has_high : (s : Set) (k : ℕ) → k < 64 → Has s (64 + k) → On s.hi k
has_high s k h on = let e : (64 + k) % 64 ≡ k = omega (arith, h) in rw (le-ltb (64 + k) 64 (omega arith), e) at on.on

-- where its two words are 0, and only there, nothing is in a set
pub words_zero : (s : Set) → s.lo ≡ 0 → s.hi ≡ 0 → Empty s
words_zero s e f w h = off (ltb w 64) h.on
  where
    off : (b : Bool) → ¬ On (cond b s.lo s.hi) (w % 64)
    off true o = zero_off (w % 64) (subst (λ (x : ℕ). On x (w % 64)) e o)
    off false o = zero_off (w % 64) (subst (λ (x : ℕ). On x (w % 64)) f o)

pub zero_words : (s : Set) → SetFits s → Empty s → (s.lo ≡ 0) × (s.hi ≡ 0)
zero_words s F f = (
  no_bit 64 s.lo F.0 (λ k i on. f k (low_has s k i on)),
  no_bit 64 s.hi F.1 (λ k i on. f (64 + k) (high_has s k i on)),
)

pub empty_test : (s : Set) → SetFits s → ((eqb s.lo 0 && eqb s.hi 0) ≡ true) ↔ Empty s
empty_test s F = Iff.trans (both_equal s.lo 0 s.hi 0) ((λ (e, f). words_zero s e f), zero_words s F)

-- the lowest number: in the first word, in the second, or none
pub lowest_low : (s : Set) (r : ℕ) → LowestOn s.lo r → First (Has s) 0 128 r
lowest_low s r L = record {
  from = omega arith;
  within = omega (arith, L.within);
  holds = λ h. low_has s r L.within L.on;
  before = λ k a l h. L.below k l (has_low s k (omega (arith, l, L.within)) h);
}

pub lowest_high : (s : Set) (r : ℕ) → s.lo ≡ 0 → LowestOn s.hi r → First (Has s) 0 128 (64 + r)
lowest_high s r e L = record {
  from = omega arith;
  within = omega (arith, L.within);
  holds = λ h. high_has s r L.within L.on;
  before = λ k a l h. elim (dec_lt k 64) [ yes m ↦ zero_off k (subst (λ (x : ℕ). On x k) e (has_low s k m h)) | no m ↦ above k l h (omega (arith, m)) ];
}
  where
    above : (k : ℕ) → k < 64 + r → Has s k → 64 ≤ k → ⊥
    above k l h m =
        let q : 64 + (k - 64) ≡ k = omega (arith, m) in
        L.below (k - 64) (omega (arith, l, m)) (has_high s (k - 64) (omega (arith, m, h.below)) (subst (Has s) (sym q) h))

pub lowest_none : (s : Set) → s.lo ≡ 0 → s.hi ≡ 0 → First (Has s) 0 128 128
lowest_none s e f = record { from = omega arith; within = omega arith; holds = λ h. absurd (omega (arith, h)); before = λ k a l h. words_zero s e f k h }

-- one number less, in the word of the two that has its bit
less_law : (s : Set) (u : ℕ) (t : Set) → ((j : ℕ) → j < 64 → On t.lo j ↔ (On s.lo j × (j ≢ u)))
    → ((j : ℕ) → j < 64 → On t.hi j ↔ (On s.hi j × (64 + j ≢ u)))
    → (y : ℕ) → Has t y ↔ (Has s y × (y ≢ u))
less_law s u t f g y = (
  (λ h. let (o, n) = (pick (ltb y 64) refl h.below).0 h.on in (record { below = h.below; on = o }, n)),
  (λ (h, n). record { below = h.below; on = (pick (ltb y 64) refl h.below).1 (h.on, n) }),
)
  where
    pick : (b : Bool) → ltb y 64 ≡ b → y < 128
        → On (cond b t.lo t.hi) (y % 64) ↔ (On (cond b s.lo s.hi) (y % 64) × (y ≢ u))
    pick true e l = let h = ltb-true y 64 e in let w = f (y % 64) (omega arith) in (
      (λ on. let (o, n) = w.0 on in (o, λ z. n (omega (arith, h, z)))),
      (λ (o, n). w.1 (o, λ z. n (omega (arith, h, z)))),
    )
    pick false e l = let h = ltb-false y 64 e in let w = g (y % 64) (omega arith) in (
      (λ on. let (o, n) = w.0 on in (o, λ z. n (omega (arith, h, l, z)))),
      (λ (o, n). w.1 (o, λ z. n (omega (arith, h, l, z)))),
    )

-- where no number below 128 is the lowest, the set is empty
pub lowest_empty : {s : Set} {u : ℕ} → First (Has s) 0 128 u → 128 ≤ u → Empty s
lowest_empty F h w g = F.before w (omega arith) (omega (arith, h, g.below)) g

-- without the lowest number: in the first word, or in the second where there is none in the first
pub rest_low : (s : Set) {r : ℕ} → s.lo ≢ 0 → s.lo < 2 ^ 64 → ((k : ℕ) → LowestOn s.lo k → Without s.lo k r)
    → (u : ℕ) → First (Has s) 0 128 u → (y : ℕ) → Has (record { lo = r; hi = s.hi }) y ↔ (Has s y × (y ≢ u))
rest_low s {r} n f W u F =
    less_law s u (record { lo = r; hi = s.hi }) (λ j l. L.exactly j) (λ j l. ((λ on. (on, λ z. omega (arith, z, low))), (λ (on, q). on)))
  where
    low : u < 64
    low = elim (dec_lt u 64) [
      | yes h ↦ h
      | no h ↦ absurd (n (no_bit 64 s.lo f (λ k l on. F.before k (omega arith) (omega (arith, l, h)) (low_has s k l on))))
    ]

    L : Without s.lo u r
    L = W u (record {
      within = low;
      on = has_low s u low (F.holds (omega (arith, low)));
      below = λ k l on. F.before k (omega arith) l (low_has s k (omega (arith, l, low)) on);
    })

pub rest_high : (s : Set) {r : ℕ} → s.lo ≡ 0 → (¬ Empty s) → ((k : ℕ) → LowestOn s.hi k → Without s.hi k r)
    → (u : ℕ) → First (Has s) 0 128 u → (y : ℕ) → Has (record { lo = s.lo; hi = r }) y ↔ (Has s y × (y ≢ u))
rest_high s {r} e some W u F =
    less_law s u (record { lo = s.lo; hi = r })
    (λ j l. ((λ on. absurd (off j on)), (λ (on, q). on)))
    (λ j l. (
      (λ on. let (p, q) = (L.exactly j).0 on in (p, λ z. q (omega (arith, z)))),
      (λ (on, q). (L.exactly j).1 (on, λ z. q (omega (arith, z, high)))),
    ))
  where
    off : (j : ℕ) → ¬ On s.lo j
    off j on = zero_off j (subst (λ (x : ℕ). On x j) e on)

    within : u < 128
    within = elim (dec_lt u 128) [ yes h ↦ h | no h ↦ absurd (some (lowest_empty F (omega (arith, h)))) ]

    high : 64 ≤ u
    high = elim (dec_lt u 64) [ yes h ↦ absurd (off u (has_low s u h (F.holds within))) | no h ↦ omega (arith, h) ]

    at : 64 + (u - 64) ≡ u
    at = omega (arith, high)

    L : Without s.hi (u - 64) r
    L = W (u - 64) (record {
      within = omega (arith, within, high);
      on = has_high s (u - 64) (omega (arith, within, high)) (rw at (F.holds within));
      below = λ k l on. F.before (64 + k) (omega arith) (omega (arith, l, high)) (high_has s k (omega (arith, l, within, high)) on);
    })

-- the highest number
pub highest_high : (s : Set) (r : ℕ) → HighestOn s.hi r → Last s (64 + r)
highest_high s r H = record {
  has = high_has s r H.within H.on;
  above = λ w l h. let q : 64 + (w - 64) ≡ w = omega (arith, l) in H.above (w - 64) (omega (arith, l)) (has_high s (w - 64) (omega (arith, l, h.below)) (subst (Has s) (sym q) h));
}

pub highest_low : (s : Set) (r : ℕ) → s.hi ≡ 0 → HighestOn s.lo r → Last s r
highest_low s r e H = record {
  has = low_has s r H.within H.on;
  above = λ w l h. elim (dec_lt w 64) [ yes m ↦ H.above w l (has_low s w m h) | no m ↦ second w h (omega (arith, m)) ];
}
  where
    second : (w : ℕ) → Has s w → 64 ≤ w → ⊥
    second w h m =
        let q : 64 + (w - 64) ≡ w = omega (arith, m) in
        zero_off (w - 64) (subst (λ (x : ℕ). On x (w - 64)) e (has_high s (w - 64) (omega (arith, m, h.below)) (subst (Has s) (sym q) h)))

-- ONE SET: words that have the same bits are the same, and so are sets with the same members
pub same_word : (x y : ℕ) → ((k : ℕ) → On x k ↔ On y k) → x ≡ y
same_word x y f = same_from_bits x y (λ k. grind (arith, (f k).0, (f k).1, bit_at-lt x k, bit_at-lt y k))

same : (s t : Set) → s.lo ≡ t.lo → s.hi ≡ t.hi → s ≡ t
same s t e f = ap (λ (x : ℕ). record { lo = x; hi = s.hi }) e ∙ ap (λ (x : ℕ). record { lo = t.lo; hi = x }) f

pub one_set : (s t : Set) → SetFits s → SetFits t → ((w : ℕ) → Has s w ↔ Has t w) → s ≡ t
one_set s t F G f = same s t (same_word s.lo t.lo low) (same_word s.hi t.hi high)
  where
    low : (k : ℕ) → On s.lo k ↔ On t.lo k
    low k = (
      (λ on. let h = bit_below 64 s.lo k F.0 on in has_low t k h ((f k).0 (low_has s k h on))),
      (λ on. let h = bit_below 64 t.lo k G.0 on in has_low s k h ((f k).1 (low_has t k h on))),
    )

    high : (k : ℕ) → On s.hi k ↔ On t.hi k
    high k = (
      (λ on. let h = bit_below 64 s.hi k F.1 on in has_high t k h ((f (64 + k)).0 (high_has s k h on))),
      (λ on. let h = bit_below 64 t.hi k G.1 on in has_high s k h ((f (64 + k)).1 (high_has t k h on))),
    )

-- `==` of two sets, b by what the derived `eq` ensures: they have the same members
pub same_test : {s t : Set} {b : Bool} → b ≡ (eqb s.lo t.lo && eqb s.hi t.hi) → SetFits s → SetFits t → (b ≡ true) ↔ SameMembers s t
same_test {s} {t} e F G = rw e (Iff.trans (both_equal s.lo t.lo s.hi t.hi) (
  (λ (e, f). subst (SameMembers s) (same s t e f) (λ w. ((λ h. h), (λ h. h)))),
  (λ f. let e = one_set s t F G f in (ap (λ (x : Set). x.lo) e, ap (λ (x : Set). x.hi) e)),
))

-- HOW MANY: a set within another that lacks one of its numbers has fewer, and none has more than 128
pub size_few : (s : Set) → size_of s ≤ 128
size_few s = let a = bits_few s.lo 64 in let b = bits_few s.hi 64 in omega arith

pub size_lt : (s t : Set) (x : ℕ) → ((w : ℕ) → Has s w → Has t w) → Has t x → ¬ Has s x → size_of s < size_of t
size_lt s t x f h n = elim (dec_lt x 64) [ yes m ↦ first m | no m ↦ second (omega (arith, m)) ]
  where
    low : (j : ℕ) → j < 64 → On s.lo j → On t.lo j
    low j l on = has_low t j l (f j (low_has s j l on))

    high : (j : ℕ) → j < 64 → On s.hi j → On t.hi j
    high j l on = has_high t j l (f (64 + j) (high_has s j l on))

    first : x < 64 → size_of s < size_of t
    first m =
        let a = (bits_lt s.lo t.lo 64 low).1 x m (has_low t x m h) (λ on. n (low_has s x m on)) in
        let b = (bits_lt s.hi t.hi 64 high).0 in
        omega arith

    second : 64 ≤ x → size_of s < size_of t
    second m =
        let q : 64 + (x - 64) ≡ x = omega (arith, m) in
        let l : x - 64 < 64 = omega (arith, m, h.below) in
        let a = (bits_lt s.hi t.hi 64 high).1 (x - 64) l (has_high t (x - 64) l (subst (Has t) (sym q) h)) (λ on. n (subst (Has s) q (high_has s (x - 64) l on))) in
        let b = (bits_lt s.lo t.lo 64 low).0 in
        omega arith

-- the test of a number: below 128, and its bit
pub contained : (s : Set) (w x : ℕ) {b : Bool} → x ≡ half_of s w → (b ≡ true) ↔ On x (w % 64) → ((ltb w 128 && b) ≡ true) ↔ Has s w
contained s w x {b} e f =
    Iff.trans (both (ltb w 128) b (ltb-true w 128, lt-ltb w 128) f)
    ((λ (l, on). record { below = l; on = rw e at on }), (λ h. (h.below, rw e h.on)))

-- one number more, in the first word or in the second
pub with_low : (s : Set) (k x : ℕ) → k < 64 → With s.lo k x → (y : ℕ) → Has (record { lo = x; hi = s.hi }) y ↔ (Has s y ⊎ (y ≡ k))
with_low s k x l W = with_law s k (record { lo = x; hi = s.hi }) (omega (arith, l))
    (λ j. ((λ o. ⊎_map (λ p. p) (λ e. (l, e)) ((W.exactly j).0 o)), (λ o. (W.exactly j).1 (⊎_map (λ p. p) (λ e. e.1) o))))
    (λ j. (inl, ⊎_elim (λ o. o) (λ e. absurd (omega (arith, e, l)))))

pub with_high : (s : Set) (k x : ℕ) → k < 64 → With s.hi k x → (y : ℕ) → Has (record { lo = s.lo; hi = x }) y ↔ (Has s y ⊎ (y ≡ 64 + k))
with_high s k x l W = with_law s (64 + k) (record { lo = s.lo; hi = x }) (omega (arith, l))
    (λ j. (inl, ⊎_elim (λ o. o) (λ e. absurd (omega (arith, e.0)))))
    (λ j. ((λ o. ⊎_map (λ p. p) (λ e. omega (arith, e)) ((W.exactly j).0 o)), (λ o. (W.exactly j).1 (⊎_map (λ p. p) (λ e. omega (arith, e)) o))))

-- the numbers below b
pub below_law : (s : Set) (b : ℕ) → ((j : ℕ) → j < 64 → On s.lo j ↔ (j < b)) → ((j : ℕ) → j < 64 → On s.hi j ↔ (64 + j < b))
    → Members (λ (w : ℕ). w < b) s
below_law s b f g = record { exactly = λ w h. by_cases (dec_lt w 64) (low w) (λ l. high w (omega arith) h) }
  where
    low : (w : ℕ) → w < 64 → Has s w ↔ (w < b)
    low w l = ((λ k. (f w l).0 (has_low s w l k)), (λ k. low_has s w l ((f w l).1 k)))

    high : (w : ℕ) → 64 ≤ w → w < 128 → Has s w ↔ (w < b)
    high w m h =
        let q : 64 + (w - 64) ≡ w = omega arith in
        let l : w - 64 < 64 = omega arith in
        subst (λ (x : ℕ). Has s x ↔ (x < b)) q
        ((λ k. (g (w - 64) l).0 (has_high s (w - 64) l k)), (λ k. high_has s (w - 64) l ((g (w - 64) l).1 k)))

-- two words of eight bytes each
pub packed_set : (b : List ℕ) (at : ℕ) (r : Set) → Packed b at 8 r.lo → Packed b (at + 8) 8 r.hi → Members (λ (w : ℕ). On (get_or b (at + w / 8) 0) (w % 8)) r
packed_set b at r L H = record { exactly = λ w m. elim (dec_lt w 64) [ yes h ↦ low w h | no h ↦ high w m (omega (arith, h)) ] }
  where
    low : (w : ℕ) → w < 64 → Has r w ↔ On (get_or b (at + w / 8) 0) (w % 8)
    low w h = let P = L.exactly w (omega (arith, h)) in ((λ g. P.0 (has_low r w h g)), (λ on. low_has r w h (P.1 on)))

    high : (w : ℕ) → w < 128 → 64 ≤ w → Has r w ↔ On (get_or b (at + w / 8) 0) (w % 8)
    high w m h =
        let q : 64 + (w - 64) ≡ w = omega (arith, h) in
        let l : w - 64 < 64 = omega (arith, m, h) in
        let e : at + 8 + (w - 64) / 8 ≡ at + w / 8 = omega (arith, h) in
        let f : (w - 64) % 8 ≡ w % 8 = omega (arith, h) in
        let P = H.exactly (w - 64) (omega (arith, l)) in
        ((λ g. rw (e, f) at (P.0 (has_high r (w - 64) l (subst (Has r) (sym q) g)))), (λ on. subst (Has r) q (high_has r (w - 64) l (P.1 (rw (e, f) on)))))

-- is a number in the set?
pub has? : (s : Set) (w : ℕ) → Dec (Has s w)
has? s w = elim (dec_lt w 128) [ yes l ↦ pick l | no l ↦ no (λ h. l h.below) ]
  where
    pick : w < 128 → Dec (Has s w)
    pick l = elim (ℕ_discrete (half_of s w / 2 ^ (w % 64) % 2) 1) [ yes e ↦ yes (record { below = l; on = e }) | no e ↦ no (λ h. e h.on) ]
