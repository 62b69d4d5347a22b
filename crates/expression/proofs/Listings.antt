-- THE LISTING IS THE CHART: what is written, in its order, are the chart's transitions.
use Prim.Native.Nat.{ℕ, zero, suc, ◌+◌, ◌/◌, ◌%◌, ◌<◌, ◌≤◌}
use mathlib.Core.Path.{◌≡◌, refl, ap, sym, ◌∙◌, subst}
use mathlib.Core.Bool.{Bool, true, false, ◌&&◌, ◌||◌}
use mathlib.Core.Logic.{⊎_elim}
use mathlib.Core.List.Memᴰ
use mathlib.Core.List.{List, [], ◌∷◌, ◌++◌, map, Memᴰ}
use native.Mathlib.Nat.{eq-or-lt_of_le}
use native.Mathlib.Omega.{arith}
use lib.Dec.{eqb, ltb}
use lib.ListN.{length, get_or, take, drop}
use lib.Seq.{sets}
use borrow.Author.Tests.{ltb-true, ltb-false, eq-eqb, lt-ltb, le-ltb}
use Rattle.std.specs.Prelude.{sum_by}
use Rattle.bits.specs.Words.{On}
use Rattle.bits.specs.Counts.{bits_below}
use Rattle.theory.specs.Ascending.{Ascending}
use Rattle.theory.specs.Transitions.{Transition, precedes}
use Rattle.theory.proofs.Ascending.{one_list, precedes_order}
use Rattle.theory.proofs.ExpressionCharts.{transitions_ascend, transitions→}
use Rattle.chart.specs.Numbered.{Coded, Numbered}
use Rattle.chart.proofs.Relations.{acts_member}
use Rattle.expression.specs.Table.{node, count}
use Rattle.expression.specs.Body.{four_of, flat, chart_transitions, head_of, body_of}
use Rattle.expression.specs.Listing.{bits_of, transition_of, word_transitions, listing, KeysFit}
use Rattle.expression.proofs.Stores.{append_ascends, bits→, bits←, bits_ascend, bits_sum, listing_many}
use Rattle.expression.proofs.Chart.{body_transitions}

-- THE ORDER
map_ascends : {A B : Type 0} (less : A → A → Bool) (more : B → B → Bool) (f : A → B) (l : List A) → Ascending less l
    → ((x y : A) → Memᴰ x l → Memᴰ y l → less x y ≡ true → more (f x) (f y) ≡ true) → Ascending more (map f l)
map_ascends less more f [] a h = tt
map_ascends less more f (x ∷ []) a h = (tt, tt)
map_ascends less more f (x ∷ y ∷ l) a h = (
  h x y (Memᴰ.head refl) (Memᴰ.tail (Memᴰ.head refl)) a.0,
  map_ascends less more f (y ∷ l) a.1 (λ u v p q. h u v (Memᴰ.tail p) (Memᴰ.tail q)),
)

-- the order of keys is that of pairs
keys_precede : (keys : List ℕ) (k i j : ℕ) → get_or keys i 0 < get_or keys j 0 → precedes (transition_of keys k i) (transition_of keys k j) ≡ true
unfolding transition_of precedes
keys_precede keys k i j h = rw (le-ltb (suc k) (suc k) (omega arith), eq-eqb (suc k) (suc k) refl) (go (ltb (get_or keys i 0 / 256) (get_or keys j 0 / 256)) refl)
  where
    go : (b : Bool) → ltb (get_or keys i 0 / 256) (get_or keys j 0 / 256) ≡ b
        → b || (eqb (get_or keys i 0 / 256) (get_or keys j 0 / 256) && ltb (get_or keys i 0 % 256) (get_or keys j 0 % 256)) ≡ true
    go true e = refl
    go false e =
        let q = ltb-false (get_or keys i 0 / 256) (get_or keys j 0 / 256) e in
        rw (eq-eqb (get_or keys i 0 / 256) (get_or keys j 0 / 256) (omega arith), lt-ltb (get_or keys i 0 % 256) (get_or keys j 0 % 256) (omega arith))

lower_from : (x y : Transition) → x.0 < y.0 → precedes x y ≡ true
unfolding precedes
lower_from x y h = rw (lt-ltb x.0 y.0 h)

-- THE MEMBERS
module _ (keys words : List ℕ) where
  -- x is the transition of a bit of the word of node p
  record Listed (x : Transition) (p : ℕ) : Type 0 where
    rank : ℕ
    on : On (get_or words (suc p) 0) rank
    is : transition_of keys p rank ≡ x

  word→ : (k : ℕ) (x : Transition) → Memᴰ x (word_transitions keys k (get_or words (suc k) 0)) → Listed x k
  unfolding word_transitions
  word→ k x mem =
      let (i, m, e) = Memᴰ.of_map (transition_of keys k) (bits_of (get_or words (suc k) 0) 64) mem in
      record { rank = i; on = (bits→ (get_or words (suc k) 0) 64 i m).1; is = e }

  word← : (k i : ℕ) → i < 64 → On (get_or words (suc k) 0) i → Memᴰ (transition_of keys k i) (word_transitions keys k (get_or words (suc k) 0))
  unfolding word_transitions
  word← k i h on = Memᴰ.map (transition_of keys k) (bits← (get_or words (suc k) 0) 64 i h on)

  listing→ : (k n : ℕ) (x : Transition) → Memᴰ x (listing keys words k n) → (p : ℕ) × (k ≤ p) × (p < k + n) × Listed x p
  unfolding listing
  listing→ k zero x mem = absurd (Memᴰ.not-nil mem)
  listing→ k (suc n) x mem =
      ⊎_elim
      (λ i. (k, omega arith, omega arith, word→ k x i))
      (λ i. let (p, l, h, r) = listing→ (suc k) n x i in (p, omega (arith, l), omega (arith, h), r))
      (Memᴰ.append_cases (word_transitions keys k (get_or words (suc k) 0)) mem)

  listing← : (k n p i : ℕ) → k ≤ p → p < k + n → i < 64 → On (get_or words (suc p) 0) i → Memᴰ (transition_of keys p i) (listing keys words k n)
  unfolding listing
  listing← k zero p i l h q on = absurd (omega arith)
  listing← k (suc n) p i l h q on =
      ⊎_elim
      (λ (e : k ≡ p). rw e (Memᴰ.append_left (listing keys words (suc p) n) (word← p i q on)))
      (λ (d : k < p). Memᴰ.append_right (word_transitions keys k (get_or words (suc k) 0)) (listing← (suc k) n p i d (omega arith) q on))
      (eq-or-lt_of_le l)

  module _ (m : ℕ) (C : Coded keys words m) where
    word_ascends : (k : ℕ) → Ascending precedes (word_transitions keys k (get_or words (suc k) 0))
    unfolding word_transitions
    word_ascends k =
        let x = get_or words (suc k) 0 in
        map_ascends ltb precedes (transition_of keys k) (bits_of x 64) (bits_ascend x 64)
        (λ i j p q h. keys_precede keys k i j (C.rising i j (ltb-true i j h) (C.listed.known (suc k) j (bits→ x 64 j q).1)))

    listing_ascends : (k n : ℕ) → Ascending precedes (listing keys words k n)
    unfolding listing transition_of
    listing_ascends k zero = tt
    listing_ascends k (suc n) =
        append_ascends precedes (word_transitions keys k (get_or words (suc k) 0)) (listing keys words (suc k) n) (word_ascends k) (listing_ascends (suc k) n)
        (λ x y p q.
        let a = ap (λ (z : Transition). z.0) (word→ k x p).is in
        let (r, l, h, e) = listing→ (suc k) n y q in
        let b = ap (λ (z : Transition). z.0) e.is in
        lower_from x y (omega (arith, a, b, l)))

    pub keys_fit : (u : ℕ) → KeysFit keys (get_or words u 0)
    keys_fit u = record { each = λ i on. C.listed.fit i (C.listed.known u i on) }

-- THE THEOREM
module _ (s keys words : List ℕ) (m n : ℕ) (all : n ≡ count s) (N : Numbered (body_of s) keys words m) where
  listed : (p : ℕ) (x : Transition) → Listed keys words x p → Memᴰ x (chart_transitions s)
  unfolding transition_of
  listed p x r =
      let y : Transition = transition_of keys p r.rank in
      let a = (N.exactly y.0 y.1 y.2).1 (r.rank, N.coded.listed.known (suc p) r.rank r.on, refl, refl, r.on) in
      subst (λ (z : Transition). Memᴰ z (chart_transitions s)) r.is (rw (body_transitions s) at ((acts_member (body_of s) y.0 y.1 y.2).0 a))

  transition_is : (k i : ℕ) (x : Transition) → x.0 ≡ suc k → get_or keys i 0 / 256 ≡ x.1 → get_or keys i 0 % 256 ≡ x.2 → transition_of keys k i ≡ x
  unfolding transition_of
  transition_is k i x e ea et = λ j. (sym e j, ea j, et j)

  listing_is_chart : listing keys words 0 n ≡ chart_transitions s
  unfolding chart_transitions
  listing_is_chart =
      one_list precedes precedes_order (listing keys words 0 n) (chart_transitions s) (listing_ascends keys words m N.coded 0 n) (transitions_ascend (node s) (count s))
      (λ x mem. let (p, l, h, r) = listing→ keys words 0 n x mem in listed p x r)
      (λ x mem. let (k, h, e, z) = transitions→ (node s) (count s) x mem in
      let (i, q, ea, et, on) = (N.exactly x.0 x.1 x.2).0 ((acts_member (body_of s) x.0 x.1 x.2).1 (rw (body_transitions s) mem)) in
      subst (λ (y : Transition). Memᴰ y (listing keys words 0 n)) (transition_is k i x e ea et)
      (listing← keys words 0 n k i (omega arith) (omega (arith, all, h)) (omega (arith, q, N.coded.listed.few))
      (subst (λ (u : ℕ). On (get_or words u 0) i) e on)))

  -- as many as there are bits
  pub chart_many : n < 128 → sum_by (λ word. bits_below word 64) (take n (drop 1 words)) ≡ length (chart_transitions s)
  chart_many h =
      bits_sum words 0 n (omega (arith, N.coded.listed.words_long)) ∙ sym (listing_many words keys 0 n) ∙ ap length listing_is_chart

  pub chart_room : (k : ℕ) → length (body_of s) ≤ k → 4 + length (flat (listing keys words 0 n)) ≤ k
  unfolding body_of four_of
  chart_room k h = rw listing_is_chart (omega (arith, h))

  pub body_is : (out b : List ℕ) (t : ℕ) → t ≡ length (chart_transitions s) → b ≡ sets out 0 (head_of n t ++ flat (listing keys words 0 n)) → b ≡ sets out 0 (body_of s)
  unfolding body_of
  body_is out b t e d = d ∙ rw (listing_is_chart, all, e)
