-- The place of a step among the transitions: the bits before it are the transitions before it.
use mathlib.Core.Path.{◌≡◌, refl, ap, subst}
use mathlib.Core.Logic.{◌⊎◌, inl, inr, ⊎_elim, by_cases}
use mathlib.Core.List.{List}
use Prim.Native.Nat.{ℕ, zero, suc, ◌+◌, ◌*◌, ◌/◌, ◌%◌, ◌^◌, ◌≤◌, ◌<◌}
use native.Mathlib.Decide.{ℕ_discrete, dec_lt}
use native.Mathlib.Omega.{arith}
use lib.ListN.{get_or}
use Rattle.bits.specs.Words.{On}
use Rattle.bits.specs.Counts.{bits_below}
use Rattle.bits.proofs.Counts.{bit_counted, bit_uncounted}
use Rattle.chart.specs.Bodies.{count_of, from_of, action_of, to_of, key_at, WellFormed}
use Rattle.chart.specs.Numbered.{Numbered}
use Rattle.bisimulation.specs.Places.{KeyBelow, KeysSplit}

-- a number that is not below
not_below : {e : List ℕ} {n i : ℕ} → ¬ KeyBelow e n i → n ≤ key_at e i
not_below {e} {n} {i} f = by_cases (dec_lt (key_at e i) n) (λ h. absurd (f (record { is = h }))) (λ h. omega arith)

none_below : (x : ℕ) → bits_below x 0 ≡ 0
unfolding bits_below
none_below x = refl

-- a transition with the number n stands where the lower ones end
pub one_place : {e : List ℕ} {n r : ℕ} → WellFormed e → KeysSplit e n r → (i : ℕ) → i < count_of e → key_at e i ≡ n → i ≡ r
one_place {e} {n} {r} W P i h q =
    by_cases (dec_lt i r) (λ l. absurd (omega (arith, (P.below i l).is)))
    (λ l.
    by_cases (dec_lt r i)
    (λ g. absurd (omega (arith, not_below (P.above r (omega arith) (omega arith)), W.ascending r i g h)))
    (λ g. omega arith))

module _ {e keys words : List ℕ} {m : ℕ} (W : WellFormed e) (N : Numbered e keys words m) where
  -- a transition is a step of its vertex
  pub key_of : (i : ℕ) → i < count_of e → (k : ℕ) × (k < m) × (key_at e i ≡ 65536 * from_of e i + get_or keys k 0) × On (get_or words (from_of e i) 0) k
  key_of i h =
      let (k, l, a, t, on) = (N.exactly (from_of e i) (action_of e i) (to_of e i)).0 (record { at = i; within = h; leaves = refl; enters = refl; holds = record { is = refl } }) in
      (k, l, omega arith, on)

  -- a step of a vertex is a transition
  pub at_key : (u k : ℕ) → On (get_or words u 0) k → (i : ℕ) × (i < count_of e) × (from_of e i ≡ u) × (key_at e i ≡ 65536 * u + get_or keys k 0)
  at_key u k on =
      let a = (N.exactly u (get_or keys k 0 / 256) (get_or keys k 0 % 256)).1 (k, N.coded.listed.known u k on, refl, refl, on) in
      let p = a.leaves in
      let q = a.holds.is in
      let r = a.enters in
      (a.at, a.within, p, omega arith)

  -- steps are in the order of their keys
  pub key_order : (j k : ℕ) → j < m → get_or keys j 0 < get_or keys k 0 → j < k
  key_order j k l h =
      by_cases (dec_lt j k) (λ g. g)
      (λ g. by_cases (ℕ_discrete j k) (λ q. absurd (let z : get_or keys j 0 ≡ get_or keys k 0 = ap (λ (i : ℕ). get_or keys i 0) q in omega arith)) (λ q. absurd (omega (arith, N.coded.rising k j (omega arith) l))))

  pub places_start : KeysSplit e (65536 * 0) 0
  places_start = record { within = omega arith; below = λ i h. absurd (omega arith); above = λ i l h k. omega (arith, k.is) }

  module _ (x : ℕ) {at : ℕ} (P : KeysSplit e (65536 * x) at) where
    -- n is among the numbers of x's transitions, past those of the steps below k and not past another
    record Past (k n : ℕ) : Type 0 where
      low : 65536 * x ≤ n
      high : n ≤ 65536 * (x + 1)
      before : (j : ℕ) → j < k → j < m → 65536 * x + get_or keys j 0 < n
      after : (j : ℕ) → k ≤ j → j < m → n ≤ 65536 * x + get_or keys j 0

    -- a transition that is not below x's is above them, or one of them
    found : (i : ℕ) → i < count_of e → 65536 * x ≤ key_at e i → (65536 * (x + 1) ≤ key_at e i) ⊎ ((j : ℕ) × (j < m) × (key_at e i ≡ 65536 * x + get_or keys j 0) × On (get_or words x 0) j)
    found i h l =
        let (j, b, q, on) = key_of i h in
        let f = N.coded.listed.fit j b in
        by_cases (ℕ_discrete (from_of e i) x)
        (λ d. inr (j, b, omega arith, subst (λ (y : ℕ). On (get_or words y 0) j) d on))
        (λ d. inl (omega arith))

    -- the transitions that are not below the number of step k, but k itself, are past n
    beyond : (k n i : ℕ) → Past (suc k) n → i < count_of e → k < m → 65536 * x + get_or keys k 0 ≤ key_at e i → ¬ ((key_at e i ≡ 65536 * x + get_or keys k 0) × On (get_or words x 0) k) → n ≤ key_at e i
    beyond k n i S h b l d =
        ⊎_elim (λ g. omega (arith, S.high))
        (λ (j, c, q, on).
        by_cases (ℕ_discrete j k)
        (λ z. absurd (d (subst (λ (y : ℕ). key_at e i ≡ 65536 * x + get_or keys y 0) z q, subst (On (get_or words x 0)) z on)))
        (λ z. omega (arith, q, S.after j (later j c q z) c)))
        (found i h (omega arith))
      where
        later : (j : ℕ) → j < m → key_at e i ≡ 65536 * x + get_or keys j 0 → ¬ (j ≡ k) → suc k ≤ j
        later j c q z =
            by_cases (dec_lt j k)
            (λ g. absurd (omega (arith, N.coded.rising j k g b)))
            (λ g. omega arith)

    at_step : (k : ℕ) → k < m → Past k (65536 * x + get_or keys k 0)
    at_step k b = record {
      low = omega arith;
      high = omega (arith, N.coded.listed.fit k b);
      before = λ j l c. omega (arith, N.coded.rising j k l b);
      after = λ j l c.
          by_cases (ℕ_discrete j k)
          (λ z. let q : get_or keys j 0 ≡ get_or keys k 0 = ap (λ (i : ℕ). get_or keys i 0) z in omega arith)
          (λ z. omega (arith, N.coded.rising k j (omega arith) c));
    }

    climb : (k n : ℕ) → Past k n → KeysSplit e n (at + bits_below (get_or words x 0) k)
    climb zero n S = subst (KeysSplit e n) none (record { within = P.within; below = λ i h. record { is = omega (arith, (P.below i h).is, S.low) }; above = λ i l h k. omega (arith, above i l h, k.is) })
      where
        none : at ≡ at + bits_below (get_or words x 0) 0
        none = omega (arith, none_below (get_or words x 0))

        above : (i : ℕ) → at ≤ i → i < count_of e → n ≤ key_at e i
        above i l h =
            ⊎_elim (λ g. omega (arith, S.high)) (λ (j, c, q, on). omega (arith, q, S.after j (omega arith) c)) (found i h (not_below (P.above i l h)))
    climb (suc k) n S =
        by_cases (dec_lt k m)
        (λ b.
        let Q = climb k (65536 * x + get_or keys k 0) (at_step k b) in
        by_cases (ℕ_discrete (get_or words x 0 / 2 ^ k % 2) 1) (with_bit_lem b Q) (without_bit b Q))
        (λ b.
        rw (bit_uncounted (get_or words x 0) k (λ on. b (N.coded.listed.known x k on)))
        (climb k n (record {
          low = S.low;
          high = S.high;
          before = λ j l c. S.before j (omega arith) c;
          after = λ j l c. absurd (omega arith);
        })))
      where
        with_bit_lem : k < m → KeysSplit e (65536 * x + get_or keys k 0) (at + bits_below (get_or words x 0) k) → On (get_or words x 0) k → KeysSplit e n (at + bits_below (get_or words x 0) (suc k))
        with_bit_lem b Q on =
            let (t, h, f, q) = at_key x k on in
            let z = one_place W Q t h q in
            let c = bit_counted (get_or words x 0) k on in
            record {
              within = omega arith;
              below = λ i l. record { is = by_cases (ℕ_discrete i t) (λ y. let p : key_at e i ≡ key_at e t = ap (key_at e) y in omega (arith, S.before k (omega arith) b)) (λ y. omega (arith, (Q.below i (omega arith)).is, S.before k (omega arith) b)) };
              above = λ i l g o. let a = W.ascending t i (omega arith) g in omega (arith, beyond k n i S g b (omega arith) (λ (y, on). omega arith), o.is);
            }

        without_bit : k < m → KeysSplit e (65536 * x + get_or keys k 0) (at + bits_below (get_or words x 0) k) → ¬ On (get_or words x 0) k → KeysSplit e n (at + bits_below (get_or words x 0) (suc k))
        without_bit b Q off =
            rw (bit_uncounted (get_or words x 0) k off)
            (record {
              within = Q.within;
              below = λ i l. record { is = omega (arith, (Q.below i l).is, S.before k (omega arith) b) };
              above = λ i l g o. omega (arith, beyond k n i S g b (not_below (Q.above i l g)) (λ (y, on). off on), o.is);
            })

    pub place_step : (k r : ℕ) → k < m → r ≡ bits_below (get_or words x 0) k → KeysSplit e (65536 * x + get_or keys k 0) (at + r)
    place_step k r b q = rw q (climb k (65536 * x + get_or keys k 0) (at_step k b))

    -- a vertex has no step from 64 on
    pub place_vertex : (r : ℕ) → r ≡ bits_below (get_or words x 0) 64 → KeysSplit e (65536 * (x + 1)) (at + r)
    place_vertex r q = rw q (climb 64 (65536 * (x + 1)) (record {
      low = omega arith;
      high = omega arith;
      before = λ j h c. omega (arith, N.coded.listed.fit j c);
      after = λ j h c. absurd (omega (arith, N.coded.listed.few));
    }))
