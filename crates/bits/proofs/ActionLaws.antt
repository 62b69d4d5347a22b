-- Sets of actions, by their two halves.
use mathlib.Core.Path.{◌≡◌, refl, sym, ap, ◌∙◌, subst}
use mathlib.Core.Logic.Iff
use mathlib.Core.Logic.{◌⊎◌, inl, inr, ◌↔◌, by_cases}
use mathlib.Core.Bool.{Bool, true, false, cond, ◌&&◌, false≢true}
use mathlib.Core.List.{List, [], ◌∷◌}
use Prim.Native.Nat.{ℕ, zero, suc, ◌+◌, ◌-◌, ◌*◌, ◌/◌, ◌%◌, ◌≤◌, ◌<◌}
use native.Mathlib.Decide.{dec_lt}
use native.Mathlib.Omega.{arith}
use borrow.Author.Tests.{lt-ltb, le-ltb, ltb-true}
use lib.Dec.{ltb, eqb}
use lib.ListN.{length, get_or}
use Rattle.bits.specs.declared.sets.Set.{Set}
use Rattle.bits.specs.declared.actions.Actions.{Actions}
use Rattle.bits.specs.Words.{On}
use Rattle.bits.specs.Bits.{list_from}
use Rattle.bits.specs.Counts.{bits_below}
use Rattle.bits.specs.Sets.{Has, Empty, Members, SameMembers, Union, size_of, BytesOf}
use Rattle.bits.specs.Tables.{row_of}
use Rattle.bits.specs.Actions.{half_with, HasAction, no_actions, NoAction, ActionsWith, SameActions, ActionsFit}
use Rattle.bits.specs.Actions.{action_count, ActionBytes}
use Rattle.bits.proofs.Counts.{bit_counted, bit_uncounted}
use Rattle.bits.proofs.Members.{⊎_map, both, none, low_has, has_low, high_has, has_high, one_set, same_test}
use Rattle.bits.proofs.Gains.{beyond, has_row}
use Rattle.bits.proofs.SetBytes.{Joined, same_bits}

-- A NUMBER OF A HALF: those below 128 are in the first, 128 more in the second
pub low_action : (s : Actions) (k : ℕ) → k < 128 → HasAction s k ↔ Has s.low k
low_action s k h =
    let e : k % 128 ≡ k = omega (arith, h) in
    let l = lt-ltb k 128 h in
    ((λ g. rw (l, e) at g.member), (λ g. record { below = omega (arith, h); member = rw (l, e) g }))

pub high_action : (s : Actions) (k : ℕ) → k < 128 → HasAction s (128 + k) ↔ Has s.high k
high_action s k h =
    let e : (128 + k) % 128 ≡ k = omega (arith, h) in
    let l = le-ltb (128 + k) 128 (omega arith) in
    ((λ g. rw (l, e) at g.member), (λ g. record { below = omega (arith, h); member = rw (l, e) g }))

-- what holds of the numbers of either half
pub by_halves : (P : ℕ → Type 0) → ((k : ℕ) → k < 128 → P k) → ((k : ℕ) → k < 128 → P (128 + k)) → (a : ℕ) → a < 256 → P a
by_halves P f g a h = by_cases (dec_lt a 128)
    (f a)
    (λ n. let e : 128 + (a - 128) ≡ a = omega arith in subst P e (g (a - 128) (omega arith)))

-- nothing is in the empty set, and in a set of which both halves are empty
pub none_of : (s : Actions) → (Empty s.low × Empty s.high) ↔ NoAction s
none_of s = (
  (λ (e, f) a h. off e f (ltb a 128) (a % 128) h.member),
  (λ n. ((λ w h. n w ((low_action s w h.below).1 h)), (λ w h. n (128 + w) ((high_action s w h.below).1 h)))),
)
  where
    off : Empty s.low → Empty s.high → (b : Bool) → Empty (cond b s.low s.high)
    off e f true = e
    off e f false = f

pub no_actions_lem : NoAction no_actions
no_actions_lem = (none_of no_actions).0 (none, none)

pub union_actions : (s t r : Actions) → Union s.low t.low r.low → Union s.high t.high r.high
    → (a : ℕ) → HasAction r a ↔ (HasAction s a ⊎ HasAction t a)
union_actions s t r f g a = (
  (λ h. ⊎_map (λ m. record { below = h.below; member = m }) (λ m. record { below = h.below; member = m }) (half.0 h.member)),
  back,
)
  where
    pick : (b : Bool) → Union (cond b s.low s.high) (cond b t.low t.high) (cond b r.low r.high)
    pick true = f
    pick false = g

    half : Has (half_with r a) (a % 128) ↔ (Has (half_with s a) (a % 128) ⊎ Has (half_with t a) (a % 128))
    half = pick (ltb a 128) (a % 128)

    back : HasAction s a ⊎ HasAction t a → HasAction r a
    back (inl h) = record { below = h.below; member = half.1 (inl h.member) }
    back (inr h) = record { below = h.below; member = half.1 (inr h.member) }

-- two sets have the same members where their halves have
pub same_of : (s t : Actions) → (SameMembers s.low t.low × SameMembers s.high t.high) ↔ SameActions s t
same_of s t = (
  (λ (f, g) a. (
    (λ h. record { below = h.below; member = (pick f g (ltb a 128) (a % 128)).0 h.member }),
    (λ h. record { below = h.below; member = (pick f g (ltb a 128) (a % 128)).1 h.member }),
  )),
  (λ f. ((λ w. (low s t (λ a. (f a).0) w, low t s (λ a. (f a).1) w)), (λ w. (high s t (λ a. (f a).0) w, high t s (λ a. (f a).1) w)))),
)
  where
    pick : SameMembers s.low t.low → SameMembers s.high t.high → (b : Bool)
        → SameMembers (cond b s.low s.high) (cond b t.low t.high)
    pick f g true = f
    pick f g false = g

    low : (u v : Actions) → ((a : ℕ) → HasAction u a → HasAction v a) → (w : ℕ) → Has u.low w → Has v.low w
    low u v f w h = (low_action v w h.below).0 (f w ((low_action u w h.below).1 h))

    high : (u v : Actions) → ((a : ℕ) → HasAction u a → HasAction v a) → (w : ℕ) → Has u.high w → Has v.high w
    high u v f w h = (high_action v w h.below).0 (f (128 + w) ((high_action u w h.below).1 h))

-- the test of a number: below 256, and in its half
pub contained_action : (s : Actions) (a : ℕ) {x : Set} {b : Bool} → x ≡ half_with s a → (b ≡ true) ↔ Has x (a % 128)
    → ((ltb a 256 && b) ≡ true) ↔ HasAction s a
contained_action s a {x} {b} e f =
    Iff.trans (both (ltb a 256) b (ltb-true a 256, lt-ltb a 256) f) (
      (λ (l, m). record { below = l; member = subst (λ (y : Set). Has y (a % 128)) e m }),
      (λ h. (h.below, subst (λ (y : Set). Has y (a % 128)) (sym e) h.member)),
    )

-- two halves of sixteen bytes each
pub packed_actions : (b : List ℕ) (at : ℕ) (r : Actions) → Members (λ (w : ℕ). On (get_or b (at + w / 8) 0) (w % 8)) r.low
    → Members (λ (w : ℕ). On (get_or b (at + 16 + w / 8) 0) (w % 8)) r.high
    → ActionsWith (λ (a : ℕ). On (get_or b (at + a / 8) 0) (a % 8)) r
packed_actions b at r L H = record {
  exactly = by_halves (λ (a : ℕ). HasAction r a ↔ On (get_or b (at + a / 8) 0) (a % 8))
      (λ k h. Iff.trans (low_action r k h) (L.exactly k h))
      (λ k h. let e : at + 16 + k / 8 ≡ at + (128 + k) / 8 = omega arith in
      let f : k % 8 ≡ (128 + k) % 8 = omega arith in
      Iff.trans (high_action r k h) (rw (e, f) at (H.exactly k h)));
}

-- four words: two sets of a table
pub rows_action : (words : List ℕ) (a : ℕ) → a < 256
    → HasAction (record { low = row_of words 0; high = row_of words 1 }) a ↔ On (get_or words (a / 64) 0) (a % 64)
rows_action words =
    let r : Actions = record { low = row_of words 0; high = row_of words 1 } in
    by_halves (λ (a : ℕ). HasAction r a ↔ On (get_or words (a / 64) 0) (a % 64))
    (λ k h. let e : 2 * 0 + k / 64 ≡ k / 64 = omega arith in rw e at (Iff.trans (low_action r k h) (has_row words 0 k h)))
    (λ k h. let e : 2 * 1 + k / 64 ≡ (128 + k) / 64 = omega arith in
    let f : k % 64 ≡ (128 + k) % 64 = omega arith in
    rw (e, f) at (Iff.trans (high_action r k h) (has_row words 1 k h)))

-- `==` of two sets, b by what the derived `eq` ensures: they have the same members
pub same_actions : {s t : Actions} {b : Bool}
    → b ≡ ((eqb s.low.lo t.low.lo && eqb s.low.hi t.low.hi) && (eqb s.high.lo t.high.lo && eqb s.high.hi t.high.hi))
    → ActionsFit s → ActionsFit t → (b ≡ true) ↔ SameActions s t
same_actions {s} {t} e F G =
    rw e (Iff.trans (both _ _ (same_test refl F.0 G.0) (same_test refl F.1 G.1)) (same_of s t))

-- THE BYTES of both halves
module _ {low high : List ℕ} where
  pub joined_all : {s : Actions} {bytes : List ℕ} → BytesOf s.low low → BytesOf s.high high → Joined 16 low high bytes → ActionBytes s bytes
  joined_all {s} {bytes} L H B = record {
    long = B.long;
    below = λ k. by_cases (dec_lt k 16) (below_first k) (λ l. by_cases (dec_lt k 32) (below_second k (omega (arith, l))) (past k));
    exactly = by_halves (λ (a : ℕ). On (get_or bytes (a / 8) 0) (a % 8) ↔ HasAction s a)
        (λ k l. rw (B.first (k / 8) (omega (arith, l))) (Iff.trans (L.exactly k l) (Iff.symm (low_action s k l))))
        (λ k l. let e : (128 + k) / 8 ≡ 16 + k / 8 = omega arith in
        let f : (128 + k) % 8 ≡ k % 8 = omega arith in
        rw (e, f, B.second (k / 8) (omega (arith, l))) (Iff.trans (H.exactly k l) (Iff.symm (high_action s k l))));
  }
    where
      below_first : (k : ℕ) → k < 16 → get_or bytes k 0 < 256
      below_first k l = rw (B.first k l) (L.below k)

      below_second : (k : ℕ) → 16 ≤ k → k < 32 → get_or bytes k 0 < 256
      below_second k l m =
          let e : 16 + (k - 16) ≡ k = omega (arith, l) in
          let f = B.second (k - 16) (omega (arith, l, m)) in
          rw (ap (λ (j : ℕ). get_or bytes j 0) (sym e) ∙ f) (H.below (k - 16))

      past : (k : ℕ) → ¬ (k < 32) → get_or bytes k 0 < 256
      past k m = omega (arith, beyond bytes k (omega (arith, B.long, m)))

-- THE SIZE IS THE NUMBER OF ITS MEMBERS: of the numbers from i on in two lots
listed_append : (p : ℕ → Bool) (i m n : ℕ) → length (list_from p i (m + n)) ≡ length (list_from p i m) + length (list_from p (i + m) n)
unfolding list_from
listed_append p i zero n =
    let e : 0 + n ≡ n = omega arith in
    let f : i + 0 ≡ i = omega arith in
    rw (e, f) (omega arith)
listed_append p i (suc m) n =
    let e : suc m + n ≡ suc (m + n) = omega arith in
    let f : i + suc m ≡ suc i + m = omega arith in
    rw (e, f) (go (p i) (listed_append p (suc i) m n))
  where
    go : (b : Bool) → length (list_from p (suc i) (m + n)) ≡ length (list_from p (suc i) m) + length (list_from p (suc i + m) n)
        → length (cond b (i ∷ list_from p (suc i) (m + n)) (list_from p (suc i) (m + n)))
        ≡ length (cond b (i ∷ list_from p (suc i) m) (list_from p (suc i) m)) + length (list_from p (suc i + m) n)
    go true h = omega arith
    go false h = omega arith

-- the bits of a word
word_listed : (p : ℕ → Bool) (i x k : ℕ) → ((j : ℕ) → j < k → (p (i + j) ≡ true) ↔ On x j) → bits_below x k ≡ length (list_from p i k)
unfolding list_from bits_below
word_listed p i x zero f = refl
word_listed p i x (suc k) f =
    let e : k + 1 ≡ suc k = omega arith in
    let a : length (list_from p i (suc k)) ≡ length (list_from p i k) + length (list_from p (i + k) 1) = rw e at (listed_append p i k 1) in
    let b = bit (p (i + k)) refl in
    omega (arith, a, b, word_listed p i x k (λ j h. f j (omega (arith, h))))
  where
    bit : (b : Bool) → p (i + k) ≡ b → bits_below x (suc k) ≡ bits_below x k + length (cond b ((i + k) ∷ []) [])
    bit true e = bit_counted x k ((f k (omega arith)).0 e)
    bit false e = let z = bit_uncounted x k (λ on. false≢true (sym e ∙ (f k (omega arith)).1 on)) in omega (arith, z)

-- the two words of a half
half_listed : (p : ℕ → Bool) (i : ℕ) (s : Set) → ((w : ℕ) → w < 128 → (p (i + w) ≡ true) ↔ Has s w) → size_of s ≡ length (list_from p i 128)
half_listed p i s f =
    let a = word_listed p i s.lo 64 (λ j h. Iff.trans (f j (omega (arith, h))) (has_low s j h, low_has s j h)) in
    let b = word_listed p (i + 64) s.hi 64 (λ j h. high j h) in
    omega (arith, a, b, listed_append p i 64 64)
  where
    high : (j : ℕ) → j < 64 → (p (i + 64 + j) ≡ true) ↔ On s.hi j
    high j h = let e : i + (64 + j) ≡ i + 64 + j = omega arith in
        rw e at (Iff.trans (f (64 + j) (omega (arith, h))) (has_high s j h, high_has s j h))

pub size_members : {s : Actions} (p : ℕ → Bool) → ((a : ℕ) → a < 256 → (p a ≡ true) ↔ HasAction s a)
    → action_count s ≡ length (list_from p 0 256)
size_members {s} p f =
    let z : (w : ℕ) → 0 + w ≡ w = λ w. omega arith in
    let a = half_listed p 0 s.low (λ w h. rw (z w) (Iff.trans (f w (omega (arith, h))) (low_action s w h))) in
    let b = half_listed p 128 s.high (λ w h. Iff.trans (f (128 + w) (omega (arith, h))) (high_action s w h)) in
    omega (arith, a, b, listed_append p 0 128 128)

-- ONE ANSWER
pub one_actions : (s t : Actions) → ActionsFit s → ActionsFit t → SameActions s t → s ≡ t
one_actions s t F G f =
    let (l, h) = (same_of s t).1 f in
    same (one_set s.low t.low F.0 G.0 l) (one_set s.high t.high F.1 G.1 h)
  where
    same : s.low ≡ t.low → s.high ≡ t.high → s ≡ t
    same e f = ap (λ (x : Set). record { low = x; high = s.high }) e ∙ ap (λ (x : Set). record { low = t.low; high = x }) f

pub actions_one : {P : ℕ → Type 0} {s t : Actions} → ActionsFit s → ActionsFit t → ActionsWith P s → ActionsWith P t → s ≡ t
actions_one {s = s} {t} F G M N = one_actions s t F G (λ a. (
  (λ h. (N.exactly a h.below).1 ((M.exactly a h.below).0 h)),
  (λ h. (M.exactly a h.below).1 ((N.exactly a h.below).0 h)),
))

pub action_bytes_one : {s : Actions} {r t : List ℕ} → ActionBytes s r → ActionBytes s t → r ≡ t
action_bytes_one {s} {r} {t} R T =
    same_bits 32 r t R.long T.long R.below T.below (λ a h. Iff.trans (R.exactly a h) (Iff.symm (T.exactly a h)))
