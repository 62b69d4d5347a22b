-- Lists of bytes, and sets of numbers as their bits: which bits the bytes of a set have, and that the bits determine the
-- bytes. The laws are over the number n of the bytes; a set of vertices has sixteen, one of actions thirty-two.
use mathlib.Core.Path.{◌≡◌, refl, sym, ap, ◌∙◌, subst}
use mathlib.Core.Logic.Iff
use mathlib.Core.Logic.{◌↔◌, ⊎_elim, by_cases}
use mathlib.Core.Bool.{Bool, true, false, cond, true≢false}
use mathlib.Core.List.{List, [], ◌∷◌, ◌++◌}
use Prim.Native.Nat.{ℕ, zero, suc, ◌+◌, ◌-◌, ◌*◌, ◌/◌, ◌%◌, ◌^◌, ◌≤◌, ◌<◌}
use native.Mathlib.Nat.{div-one, pow-suc, eq-or-lt_of_le, le_of_suc-le-suc}
use native.Mathlib.Decide.{dec_lt}
use native.Mathlib.Omega.{arith}
use lib.Dec.{eqb}
use lib.Pow.{pow-add}
use lib.ListN.{length, get_or, take, get_or-eq_default}
use lib.Seq.{ext_get_or}
use borrow.Author.Rules.{rules}
use borrow.Author.Tests.{eq-eqb, eqb-true}
use borrow.Rule.Slice.PartMut.{put_mid}
use Rattle.std.proofs.lemmas.List.{places}
use Rattle.bits.specs.Bits.{Bytes, has_bit, bits_of, bytes_from, set_bytes, action_bytes}
use Rattle.std.specs.Int.{w64, byte_at, bytes_low_first, to_le_bytes}
use Rattle.bits.specs.declared.sets.Set.{Set}
use Rattle.bits.specs.Words.{On}
use Rattle.bits.specs.Sets.{Has, BytesOf}
use Rattle.bits.proofs.Words.{bit_below, shifted}
use Rattle.bits.proofs.Packed.{stacked_low, stacked_high}
use Rattle.bits.proofs.Determined.{test_one}
use Rattle.bits.proofs.Members.{same_word, low_has, has_low, high_has, has_high}

-- the first of a list of bytes are bytes
pub taken_bytes : (n : ℕ) (l : List ℕ) → Bytes l → Bytes (take n l)
taken_bytes zero l h i = omega arith
taken_bytes (suc n) [] h i = omega arith
taken_bytes (suc n) (x ∷ l) h zero = h 0
taken_bytes (suc n) (x ∷ l) h (suc i) = taken_bytes n l (λ j. h (suc j)) i

-- ONE BYTE
module _ (p : ℕ → Bool) where
  bits_low : (k : ℕ) → bits_of p k < 2 ^ k
  unfolding bits_of
  bits_low zero = omega arith
  bits_low (suc k) = go (p k) (bits_low k) (pow-suc 2 k)
    where
      go : (b : Bool) → bits_of p k < 2 ^ k → 2 ^ suc k ≡ 2 ^ k * 2 → bits_of p k + cond b (2 ^ k) 0 < 2 ^ suc k
      go true h e = omega arith
      go false h e = omega arith

  bits_at : (k j : ℕ) → j < k → On (bits_of p k) j ↔ (p j ≡ true)
  unfolding bits_of
  bits_at zero j h = absurd (omega arith)
  bits_at (suc k) j h =
      subst (λ (n : ℕ). On (bits_of p k + n) j ↔ (p j ≡ true)) (sym (worth (p k)))
      (⊎_elim last (λ l. Iff.trans (below l) (bits_at k j l)) (eq-or-lt_of_le (le_of_suc-le-suc h)))
    where
      worth : (b : Bool) → cond b (2 ^ k) 0 ≡ 2 ^ k * cond b 1 0
      worth true = omega arith
      worth false = omega arith

      one : (b : Bool) → On (cond b 1 0) 0 ↔ (b ≡ true)
      one true = (λ e. refl, λ e. refl)
      one false = (λ e. absurd (omega (arith, e)), λ e. absurd (true≢false (sym e)))

      last : j ≡ k → On (bits_of p k + 2 ^ k * cond (p k) 1 0) j ↔ (p j ≡ true)
      last e =
          let z : k + 0 ≡ j = omega (arith, e) in
          let S = stacked_high (bits_of p k) (cond (p k) 1 0) k 0 (bits_low k) in
          subst (λ (n : ℕ). On (bits_of p k + 2 ^ k * cond (p k) 1 0) j ↔ (p n ≡ true)) (sym e)
          (Iff.trans (subst (λ (n : ℕ). On (bits_of p k + 2 ^ k * cond (p k) 1 0) n ↔ On (cond (p k) 1 0) 0) z S) (one (p k)))

      below : j < k → On (bits_of p k + 2 ^ k * cond (p k) 1 0) j ↔ On (bits_of p k) j
      below l =
          let e : j + suc (k - j - 1) ≡ k = omega (arith, l) in
          let S = stacked_low (bits_of p k) (cond (p k) 1 0) j (k - j - 1) in
          subst (λ (n : ℕ). On (bits_of p k + 2 ^ n * cond (p k) 1 0) j ↔ On (bits_of p k) j) e S

-- N BYTES
module _ (p : ℕ → Bool) where
  pub from_length : (i n : ℕ) → length (bytes_from p i n) ≡ n
  unfolding bytes_from
  from_length i zero = refl
  from_length i (suc n) = ap suc (from_length (suc i) n)

  from_at : (i n k : ℕ) → k < n → get_or (bytes_from p i n) k 0 ≡ bits_of (λ j. p (8 * (i + k) + j)) 8
  unfolding bytes_from
  from_at i zero k h = absurd (omega arith)
  from_at i (suc n) zero h = ap (λ (m : ℕ). bits_of (λ j. p (8 * m + j)) 8) (omega arith)
  from_at i (suc n) (suc k) h = from_at (suc i) n k (omega arith) ∙ ap (λ (m : ℕ). bits_of (λ j. p (8 * m + j)) 8) (omega arith)

  pub from_bytes : (n : ℕ) → Bytes (bytes_from p 0 n)
  from_bytes n k = elim (dec_lt k n) [
    | yes h ↦ rw (from_at 0 n k h) (bits_low (λ j. p (8 * (0 + k) + j)) 8)
    | no h ↦ past (get_or-eq_default (bytes_from p 0 n) 0 {n = k} (omega (arith, from_length 0 n, h)))
  ]
    where
      past : {x : ℕ} → x ≡ 0 → x < 256
      past e = omega arith

  -- THE BITS OF A SET'S BYTES: v is in them exactly when it is in the set
  pub from_bit : (n v : ℕ) → v < 8 * n → has_bit (bytes_from p 0 n) v ≡ p v
  from_bit n v h =
      let e : 8 * (0 + v / 8) + v % 8 ≡ v = omega arith in
      let at = from_at 0 n (v / 8) (omega arith) in
      let on = bits_at (λ j. p (8 * (0 + v / 8) + j)) 8 (v % 8) (omega arith) in
      ap (λ (x : ℕ). eqb (x / 2 ^ (v % 8) % 2) 1) at ∙ test_one _ _ (eqb-true _ 1, eq-eqb _ 1) (Iff.symm on) ∙ ap p e

  -- sixteen: sets of vertices
  pub set_length : length (set_bytes p) ≡ 16
  unfolding set_bytes
  set_length = from_length 0 16

  pub set_bytes_lem : Bytes (set_bytes p)
  unfolding set_bytes
  set_bytes_lem = from_bytes 16

  pub set_bit : (v : ℕ) → v < 128 → has_bit (set_bytes p) v ≡ p v
  unfolding set_bytes
  set_bit = from_bit 16

  -- thirty-two: sets of actions
  pub actions_length : length (action_bytes p) ≡ 32
  unfolding action_bytes
  actions_length = from_length 0 32

  pub actions_bytes : Bytes (action_bytes p)
  unfolding action_bytes
  actions_bytes = from_bytes 32

  pub actions_bit : (a : ℕ) → a < 256 → has_bit (action_bytes p) a ≡ p a
  unfolding action_bytes
  actions_bit = from_bit 32

-- THE BITS DETERMINE THE BYTES
pub same_bits : (n : ℕ) (s t : List ℕ) → length s ≡ n → length t ≡ n → Bytes s → Bytes t
    → ((v : ℕ) → v < 8 * n → On (get_or s (v / 8) 0) (v % 8) ↔ On (get_or t (v / 8) 0) (v % 8)) → s ≡ t
same_bits n s t l m B C f =
    ext_get_or 0 s t (l ∙ sym m)
    (λ i h. same_word _ _ (λ k. (
      carried s t B (λ v g. (f v g).0) i k (omega (arith, h, l)),
      carried t s C (λ v g. (f v g).1) i k (omega (arith, h, l)),
    )))
  where
    carried : (u w : List ℕ) → Bytes u → ((v : ℕ) → v < 8 * n → On (get_or u (v / 8) 0) (v % 8) → On (get_or w (v / 8) 0) (v % 8))
        → (i k : ℕ) → i < n → On (get_or u i 0) k → On (get_or w i 0) k
    carried u w D g i k h on =
        let b = bit_below 8 (get_or u i 0) k (D i) on in
        let d : (8 * i + k) / 8 ≡ i = omega arith in
        let r : (8 * i + k) % 8 ≡ k = omega arith in
        rw (d, r) at (g (8 * i + k) (omega (arith, h, b)) (rw (d, r) on))

pub same_bytes_all : (n : ℕ) (s t : List ℕ) → length s ≡ n → length t ≡ n → Bytes s → Bytes t
    → ((v : ℕ) → v < 8 * n → has_bit s v ≡ has_bit t v) → s ≡ t
same_bytes_all n s t l m B C f = same_bits n s t l m B C (λ v h. (
  (λ on. eqb-true _ 1 (sym (f v h) ∙ eq-eqb _ 1 on)),
  (λ on. eqb-true _ 1 (f v h ∙ eq-eqb _ 1 on)),
))

pub same_bytes_lem : (s t : List ℕ) → length s ≡ 16 → length t ≡ 16 → Bytes s → Bytes t
    → ((v : ℕ) → v < 128 → has_bit s v ≡ has_bit t v) → s ≡ t
same_bytes_lem = same_bytes_all 16

-- TWO HALVES of n bytes each, the second written into the place after the first
pub record Joined (n : ℕ) (low high bytes : List ℕ) : Type 0 where
  pub long : length bytes ≡ n + n
  pub first : (k : ℕ) → k < n → get_or bytes k 0 ≡ get_or low k 0
  pub second : (k : ℕ) → k < n → get_or bytes (n + k) 0 ≡ get_or high k 0

pub joined : (n : ℕ) {low high : List ℕ} (first second rest : List ℕ) → first ≡ low → second ≡ high → length low ≡ n → length high ≡ n
    → length rest ≡ n → Joined n low high (put_mid n n (first ++ rest) second)
joined n first second rest e f l h r = record {
  long = search (rules, places);
  first = λ k m. search (rules, places);
  second = λ k m. search (rules, places);
}

-- A WORD as eight bytes, the lowest first
listed_byte : (b n x i : ℕ) → i < n → get_or (bytes_low_first b n x) i 0 ≡ byte_at (b + i) x
listed_byte b zero x i h = absurd (omega (arith, h))
listed_byte b (suc n) x zero h = ap (λ (k : ℕ). byte_at k x) (omega arith)
listed_byte b (suc n) x (suc i) h = listed_byte (suc b) n x i (omega (arith, h)) ∙ ap (λ (k : ℕ). byte_at k x) (omega arith)

byte_worth_two : (i : ℕ) → 256 ^ i ≡ 2 ^ (8 * i)
byte_worth_two zero = refl
byte_worth_two (suc i) =
    let e : 8 * i + 8 ≡ 8 * suc i = omega arith in
    pow-suc 256 i ∙ ap (λ (n : ℕ). n * 256) (byte_worth_two i) ∙ sym (pow-add 2 (8 * i) 8) ∙ ap (λ (n : ℕ). 2 ^ n) e

byte_of_word : (i x : ℕ) → byte_at i x ≡ x / 2 ^ (8 * i) % 256
byte_of_word zero x = ap (λ (n : ℕ). n % 256) (sym (div-one x))
byte_of_word (suc i) x = ap (λ (n : ℕ). x / n % 256) (byte_worth_two (suc i))

bit_of_byte : (y j : ℕ) → j < 8 → On (y % 256) j ↔ On y j
bit_of_byte y j h =
    let e : j + suc (7 - j) ≡ 8 = omega (arith, h) in
    let f : y % 256 + 2 ^ 8 * (y / 256) ≡ y = omega arith in
    let S = subst (λ (n : ℕ). On (y % 256 + 2 ^ n * (y / 256)) j ↔ On (y % 256) j) e (stacked_low (y % 256) (y / 256) j (7 - j)) in
    Iff.symm (subst (λ (n : ℕ). On n j ↔ On (y % 256) j) f S)

pub word_byte : (x i : ℕ) → i < 8 → get_or (to_le_bytes w64 x) i 0 < 256
word_byte x i h = let e = listed_byte 0 8 x i h ∙ byte_of_word (0 + i) x in omega (arith, e)

pub word_bit : (x v : ℕ) → v < 64 → On (get_or (to_le_bytes w64 x) (v / 8) 0) (v % 8) ↔ On x v
word_bit x v h =
    let e = listed_byte 0 8 x (v / 8) (omega (arith, h)) ∙ byte_of_word (0 + v / 8) x in
    let f : 8 * (0 + v / 8) + v % 8 ≡ v = omega arith in
    rw e (Iff.trans (bit_of_byte (x / 2 ^ (8 * (0 + v / 8))) (v % 8) (omega arith)) (rw f at (shifted x (8 * (0 + v / 8)) (v % 8))))

-- two words, as the bytes of the set that has their bits
pub bytes_of : (s : Set) {bytes : List ℕ} → Joined 8 (to_le_bytes w64 s.lo) (to_le_bytes w64 s.hi) bytes → BytesOf s bytes
bytes_of s {bytes} J = record {
  long = J.long;
  below = λ k. by_cases (dec_lt k 8) (λ h. rw (J.first k h) (word_byte s.lo k h))
      (λ h. by_cases (dec_lt k 16) (above k (omega (arith, h))) (past k));
  exactly = λ w h. by_cases (dec_lt w 64) (low w) (λ l. high w (omega (arith, l)) h);
}
  where
    above : (k : ℕ) → 8 ≤ k → k < 16 → get_or bytes k 0 < 256
    above k l h =
        let e : 8 + (k - 8) ≡ k = omega (arith, l) in
        let f = J.second (k - 8) (omega (arith, l, h)) in
        rw (ap (λ (j : ℕ). get_or bytes j 0) (sym e) ∙ f) (word_byte s.hi (k - 8) (omega (arith, l, h)))

    past : (k : ℕ) → ¬ (k < 16) → get_or bytes k 0 < 256
    past k h = let e = get_or-eq_default bytes 0 {n = k} (omega (arith, J.long, h)) in omega (arith, e)

    low : (w : ℕ) → w < 64 → On (get_or bytes (w / 8) 0) (w % 8) ↔ Has s w
    low w l = rw (J.first (w / 8) (omega (arith, l))) (Iff.trans (word_bit s.lo w l) (low_has s w l, has_low s w l))

    high : (w : ℕ) → 64 ≤ w → w < 128 → On (get_or bytes (w / 8) 0) (w % 8) ↔ Has s w
    high w l h =
        let q : 64 + (w - 64) ≡ w = omega (arith, l) in
        let d : 8 + (w - 64) / 8 ≡ w / 8 = omega (arith, l) in
        let m : (w - 64) % 8 ≡ w % 8 = omega (arith, l) in
        let b : w - 64 < 64 = omega (arith, l, h) in
        rw (ap (λ (j : ℕ). get_or bytes j 0) (sym d) ∙ J.second ((w - 64) / 8) (omega (arith, b)))
        (rw (m, q) at (Iff.trans (word_bit s.hi (w - 64) b) (high_has s (w - 64) b, has_high s (w - 64) b)))
