-- The bits of a word in turn, and the transitions and bytes that they are: what a turn of each loop does.
use Prim.Native.Nat.{ℕ, zero, suc, ◌+◌, ◌-◌, ◌*◌, ◌/◌, ◌%◌, ◌^◌, ◌<◌, ◌≤◌}
use mathlib.Core.Path.{◌≡◌, refl, ap, sym, ◌∙◌}
use mathlib.Core.Bool.{Bool, true, false, cond}
use mathlib.Core.Logic.{⊎_elim}
use mathlib.Core.List.Memᴰ
use mathlib.Core.List.{List, [], ◌∷◌, ◌++◌, map, append_assoc, Memᴰ}
use native.Mathlib.Numerals.{add-one}
use native.Mathlib.Nat.{mod-lt, eq-or-lt_of_le, le_of_suc-le-suc}
use native.Mathlib.Decide.{dec_lt, ℕ_discrete}
use native.Mathlib.Omega.{arith}
use lib.Dec.{eqb, ltb}
use lib.ListN.{length, get_or, take, drop, set, length-append, length-map}
use lib.Seq.{sets, length-sets, drop-cons}
use Rattle.std.specs.Prelude.{sum_by}
use Rattle.std.proofs.lemmas.List.Sums.{sum_by-cons}
use borrow.Author.Tests.{eqb-true, eqb-false, eq-eqb, lt-ltb}
use Rattle.bits.specs.Words.{On, LowestOn, Without}
use Rattle.bits.specs.Counts.{bits_below}
use Rattle.theory.specs.Ascending.{Below, Ascending}
use Rattle.theory.specs.Transitions.{Transition}
use Rattle.theory.proofs.Ascending.{one_list, ltb_order}
use Rattle.expression.specs.Body.{four_of, flat, head_of}
use Rattle.expression.specs.Listing.{bits_of, transition_of, word_transitions, listing, bits_from, KeysFit, Stored}
use Rattle.expression.proofs.WordLaws.{off}

-- LISTS IN ORDER
below_all : {A : Type 0} (less : A → A → Bool) (x : A) (l : List A) → ((y : A) → Memᴰ y l → less x y ≡ true) → Below less x l
below_all less x [] h = tt
below_all less x (y ∷ l) h = h y (Memᴰ.head refl)

pub append_ascends : {A : Type 0} (less : A → A → Bool) (xs ys : List A) → Ascending less xs → Ascending less ys
    → ((x y : A) → Memᴰ x xs → Memᴰ y ys → less x y ≡ true) → Ascending less (xs ++ ys)
append_ascends less [] ys a b h = b
append_ascends less (x ∷ []) ys a b h = (below_all less x ys (λ y m. h x y (Memᴰ.head refl) m), b)
append_ascends less (x ∷ z ∷ xs) ys a b h = (a.0, append_ascends less (z ∷ xs) ys a.1 b (λ u y p q. h u y (Memᴰ.tail p) q))

-- THE BITS OF A WORD
pub bits→ : (x k i : ℕ) → Memᴰ i (bits_of x k) → (i < k) × On x i
unfolding bits_of
bits→ x zero i m = absurd (Memᴰ.not-nil m)
bits→ x (suc k) i m = ⊎_elim (λ p. let r = bits→ x k i p in (omega (arith, r.0), r.1)) (last (eqb (x / 2 ^ k % 2) 1) refl) (Memᴰ.append_cases (bits_of x k) m)
  where
    last : (b : Bool) → eqb (x / 2 ^ k % 2) 1 ≡ b → Memᴰ i (cond b (k ∷ []) []) → (i < suc k) × On x i
    last true e p = let q : i ≡ k = Memᴰ.eq_of_singleton p in (omega arith, rw q (eqb-true _ 1 e))
    last false e p = absurd (Memᴰ.not-nil p)

pub bits← : (x k i : ℕ) → i < k → On x i → Memᴰ i (bits_of x k)
unfolding bits_of
bits← x zero i h on = absurd (omega arith)
bits← x (suc k) i h on = ⊎_elim
    (λ (e : i ≡ k). Memᴰ.append_right (bits_of x k) (last e))
    (λ (q : i < k). Memᴰ.append_left (cond (eqb (x / 2 ^ k % 2) 1) (k ∷ []) []) (bits← x k i q on))
    (eq-or-lt_of_le (le_of_suc-le-suc h))
  where
    last : i ≡ k → Memᴰ i (cond (eqb (x / 2 ^ k % 2) 1) (k ∷ []) [])
    last e = rw (eq-eqb (x / 2 ^ k % 2) 1 (rw e at on)) (Memᴰ.head e)

pub bits_ascend : (x k : ℕ) → Ascending ltb (bits_of x k)
unfolding bits_of
bits_ascend x zero = tt
bits_ascend x (suc k) =
    append_ascends ltb (bits_of x k) (cond (eqb (x / 2 ^ k % 2) 1) (k ∷ []) []) (bits_ascend x k) (last (eqb (x / 2 ^ k % 2) 1))
    (λ i j p q. lt-ltb i j (omega (arith, (bits→ x k i p).0, is_last (eqb (x / 2 ^ k % 2) 1) j q)))
  where
    last : (b : Bool) → Ascending ltb (cond b (k ∷ []) [])
    last true = (tt, tt)
    last false = tt

    is_last : (b : Bool) (j : ℕ) → Memᴰ j (cond b (k ∷ []) []) → j ≡ k
    is_last true j m = Memᴰ.eq_of_singleton m
    is_last false j m = absurd (Memᴰ.not-nil m)

bits_many : (x k : ℕ) → length (bits_of x k) ≡ bits_below x k
unfolding bits_of bits_below
bits_many x zero = refl
bits_many x (suc k) =
    let i = bits_many x k in
    let l = length-append (bits_of x k) (cond (eqb (x / 2 ^ k % 2) 1) (k ∷ []) []) in
    let d = last (eqb (x / 2 ^ k % 2) 1) refl in
    omega arith
  where
    last : (b : Bool) → eqb (x / 2 ^ k % 2) 1 ≡ b → length (cond b (k ∷ []) []) ≡ x / 2 ^ k % 2
    last true e = sym (eqb-true _ 1 e)
    last false e =
        let d = eqb-false (x / 2 ^ k % 2) 1 e in
        let l : x / 2 ^ k % 2 < 2 = mod-lt (x / 2 ^ k) (omega arith) in
        omega arith

-- a word without bits, and one without its lowest
bits_none : (x : ℕ) → x ≡ 0 → bits_of x 64 ≡ []
bits_none x e = empty (bits_of x 64) (λ i m. off i (rw e at (bits→ x 64 i m).1))
  where
    empty : (l : List ℕ) → ((i : ℕ) → Memᴰ i l → ⊥) → l ≡ []
    empty [] f = refl
    empty (x ∷ l) f = absurd (f x (Memᴰ.head refl))

bits_next : (x i y : ℕ) → LowestOn x i → Without x i y → bits_of x 64 ≡ i ∷ bits_of y 64
bits_next x i y L W =
    one_list ltb ltb_order (bits_of x 64) (i ∷ bits_of y 64) (bits_ascend x 64) (below_all ltb i (bits_of y 64) higher, bits_ascend y 64)
    (λ j m. let r = bits→ x 64 j m in elim (ℕ_discrete j i) [
      | yes e ↦ Memᴰ.head e
      | no d ↦ Memᴰ.tail (bits← y 64 j r.0 ((W.exactly j).1 (r.1, d)))
    ])
    (λ j m. ⊎_elim
    (λ (e : j ≡ i). bits← x 64 j (omega (arith, e, L.within)) (rw e L.on))
    (λ p. let r = bits→ y 64 j p in bits← x 64 j r.0 ((W.exactly j).0 r.1).0)
    (Memᴰ.cases_cons m))
  where
    higher : (j : ℕ) → Memᴰ j (bits_of y 64) → ltb i j ≡ true
    higher j m = let r = (W.exactly j).0 (bits→ y 64 j m).1 in elim (dec_lt j i) [
      | yes h ↦ absurd (L.below j h r.0)
      | no h ↦ lt-ltb i j (let d = r.1 in omega (arith, h, d))
    ]

-- BYTES
flat_append : (xs ys : List Transition) → flat (xs ++ ys) ≡ flat xs ++ flat ys
unfolding flat
flat_append [] ys = refl
flat_append (x ∷ xs) ys = ap (λ (l : List ℕ). four_of x.0 x.1 x.2 0 ++ l) (flat_append xs ys) ∙ sym (append_assoc (four_of x.0 x.1 x.2 0) (flat xs) (flat ys))

pub length_flat : (xs : List Transition) → length (flat xs) ≡ 4 * length xs
unfolding flat four_of
length_flat [] = refl
length_flat (x ∷ xs) = let i = length_flat xs in omega arith

sets_append : (xs ys a : List ℕ) (at : ℕ) → sets (sets a at xs) (at + length xs) ys ≡ sets a at (xs ++ ys)
sets_append [] ys a at = let e : at + 0 ≡ at = omega arith in rw e
sets_append (x ∷ xs) ys a at = let e : at + suc (length xs) ≡ suc at + length xs = omega arith in rw e (sets_append xs ys (set a at x) (suc at))

pub stores_four : (o : List ℕ) (at a b c d : ℕ) → set (set (set (set o at a) (at + 1) b) (at + 2) c) (at + 3) d ≡ sets o at (four_of a b c d)
unfolding four_of
stores_four o at a b c d =
    let x : at + 1 ≡ suc at = omega arith in
    let y : at + 2 ≡ suc (suc at) = omega arith in
    let z : at + 3 ≡ suc (suc (suc at)) = omega arith in
    rw (x, y, z)

-- todo is yet to be stored in a from index at on: then it is a₀ with bytes stored from at₀ on
pub record Writing (a : List ℕ) (at : ℕ) (todo a₀ : List ℕ) (at₀ : ℕ) (bytes : List ℕ) : Type 0 where
  pub is : sets a at todo ≡ sets a₀ at₀ bytes
  pub ends : at + length todo ≡ at₀ + length bytes
  pub fits : at + length todo ≤ length a

-- what is to do is xs first, and then ys
pub record TodoSplit (todo xs ys : List ℕ) : Type 0 where
  pub is : todo ≡ xs ++ ys

module _ (a : List ℕ) (at : ℕ) (todo : List ℕ) where
  pub writing_start : (bytes : List ℕ) → todo ≡ bytes → at + length bytes ≤ length a → Writing a at todo a at bytes
  writing_start bytes e h = rw e (record { is = refl; ends = refl; fits = h })

  module _ (a₀ : List ℕ) (at₀ : ℕ) (bytes : List ℕ) (w : Writing a at todo a₀ at₀ bytes) where
    pub writing_end : todo ≡ [] → Stored a₀ at₀ bytes a at
    writing_end e = let v = rw e at w in record { is = v.is; next = omega (arith, v.ends) }

    pub writing_long : length a ≡ length a₀
    writing_long = sym (length-sets a at todo) ∙ ap length w.is ∙ length-sets a₀ at₀ bytes

    module _ (xs ys : List ℕ) (split : TodoSplit todo xs ys) where
      sum : at + (length xs + length ys) ≡ at + length todo
      sum = let l = length-append xs ys in let d = ap length split.is in omega arith

      pub writing_room : at + length xs ≤ length a
      writing_room = let n = w.fits in let l = sum in omega arith

      pub writing_on : (b : List ℕ) (r : ℕ) → Stored a at xs b r → Writing b r ys a₀ at₀ bytes
      writing_on b r s = record {
        is = rw (s.is, s.next) (sets_append xs ys a at) ∙ sym (ap (sets a at) split.is) ∙ w.is;
        ends = let n = w.ends in let l = sum in let q = s.next in omega arith;
        fits = rw (s.is, length-sets a at xs) (let n = w.fits in let l = sum in let q = s.next in omega arith);
      }

-- the head, and then the transitions
pub body_stored : (out b d : List ℕ) (n t : ℕ) (ts : List Transition) → b ≡ sets out 0 (four_of (n + 1) n (t % 256) (t / 256)) → d ≡ sets b 4 (flat ts) → d ≡ sets out 0 (head_of n t ++ flat ts)
unfolding four_of
body_stored out b d n t ts eb ed = ed ∙ rw (eb, add-one n) (sets_append (head_of n t) (flat ts) out 0)

-- A VERTEX
module _ (keys : List ℕ) where
  pub fits_rest : (x i y : ℕ) → KeysFit keys x → Without x i y → KeysFit keys y
  fits_rest x i y f W = record { each = λ j on. f.each j ((W.exactly j).0 on).0 }

  module _ (k : ℕ) where
    pub word_next : (x i y : ℕ) → LowestOn x i → Without x i y → TodoSplit (flat (word_transitions keys k x)) (flat (transition_of keys k i ∷ [])) (flat (word_transitions keys k y))
    unfolding word_transitions
    word_next x i y L W = record { is = rw (bits_next x i y L W) (flat_append (transition_of keys k i ∷ []) (map (transition_of keys k) (bits_of y 64))) }

    pub word_end : (x : ℕ) → x ≡ 0 → flat (word_transitions keys k x) ≡ []
    unfolding word_transitions flat
    word_end x e = rw (bits_none x e)

    -- the bytes of one transition
    pub transition_long : (i : ℕ) → length (flat (transition_of keys k i ∷ [])) ≡ 4
    unfolding flat four_of
    transition_long i = refl

    pub transition_stored : (a b : List ℕ) (at i : ℕ) → b ≡ sets a at (four_of (k + 1) (get_or keys i 0 / 256) (get_or keys i 0 % 256) 0) → Stored a at (flat (transition_of keys k i ∷ [])) b (at + 4)
    unfolding flat transition_of four_of
    transition_stored a b at i e = record { is = rw (add-one k) at e; next = refl }

-- VERTICES
module _ (words : List ℕ) where
  pub bits_sum : (k n : ℕ) → k + n < length words → sum_by (λ word. bits_below word 64) (take n (drop (suc k) words)) ≡ bits_from words k n
  unfolding bits_from
  bits_sum k zero h = refl
  bits_sum k (suc n) h =
      let l : suc k < length words = omega arith in
      rw (drop-cons words (suc k) 0 l)
      (sum_by-cons (λ word. bits_below word 64) (get_or words (suc k) 0) (take n (drop (suc (suc k)) words))
      ∙ ap (λ (t : ℕ). bits_below (get_or words (suc k) 0) 64 + t) (bits_sum (suc k) n (omega arith)))

  module _ (keys : List ℕ) where
    pub listing_next : (k n : ℕ) → k < n → TodoSplit (flat (listing keys words k (n - k))) (flat (word_transitions keys k (get_or words (k + 1) 0))) (flat (listing keys words (k + 1) (n - (k + 1))))
    unfolding listing
    listing_next k n h =
        let d : n - k ≡ suc (n - (k + 1)) = omega arith in
        record { is = rw (d, add-one k) (flat_append (word_transitions keys k (get_or words (suc k) 0)) (listing keys words (suc k) (n - suc k))) }

    pub listing_end : (k n : ℕ) → n ≤ k → flat (listing keys words k (n - k)) ≡ []
    unfolding listing flat
    listing_end k n h = let d : n - k ≡ 0 = omega arith in rw d

    pub listing_many : (k n : ℕ) → length (listing keys words k n) ≡ bits_from words k n
    unfolding listing bits_from word_transitions
    listing_many k zero = refl
    listing_many k (suc n) =
        let w = get_or words (suc k) 0 in
        let i = listing_many (suc k) n in
        let b = bits_many w 64 in
        let l = length-append (map (transition_of keys k) (bits_of w 64)) (listing keys words (suc k) n) in
        let m = length-map (bits_of w 64) (transition_of keys k) in
        omega arith
