-- Runs of transitions: what they lead to comes into a set.
use mathlib.Core.Path.{◌≡◌, refl, sym, ◌∙◌, ap, subst}
use mathlib.Core.Logic.{◌⊎◌, inl, inr, ⊎_elim, by_cases, ◌↔◌}
use mathlib.Core.List.{List}
use Prim.Native.Nat.{ℕ, ◌+◌, ◌-◌, ◌*◌, ◌/◌, ◌%◌, ◌≤◌, ◌<◌}
use native.Mathlib.Decide.{ℕ_discrete, dec_lt}
use native.Mathlib.Nat.{le_refl}
use native.Mathlib.Omega.{arith}
use lib.ListN.{get_or}
use Rattle.bits.specs.Bits.{Bytes}
use Rattle.bits.specs.Packed.{four_at, Packed}
use Rattle.bits.specs.declared.sets.Set.{Set}
use Rattle.bits.specs.Sets.{Has, Ones, empty_set}
use Rattle.bits.specs.Tables.{Gains}
use Rattle.bits.proofs.Words.{no_bit}
use Rattle.bits.proofs.Members.{⊎_map, zero_off, none}
use Rattle.bits.proofs.Gains.{gains_none, gains_as, gains_then}
use Rattle.chart.specs.Bodies.{vertices_of, count_of, to_of}
use Rattle.witness.specs.declared.tables.Taken.{Taken}
use Rattle.witness.specs.declared.tables.Runs.{Runs}
use Rattle.witness.specs.Given.{IsBranch, IsEntry, HasLabel, RunLeads, WithTargets, Took, LevelsOf}
use Rattle.witness.specs.Given.{RunSteps, RunLevels, RunTargets}

-- what a transition that is looked for leads to
module _ (r : Runs) {e : ℕ} (within : e ≤ count_of r.body.now) {i : ℕ} (h : i < e) where
  pub target_of : {t : ℕ} → t ≡ to_of r.body.now i → ((n : ℕ) × (t < n) × Ones n r.ones.now) × (t < 128)
  target_of z =
      let T = r.formed.each i (omega arith) in
      ((vertices_of r.body.now, omega (arith, z, T.to_high), r.of_ones), omega (arith, z, T.to_high, r.formed.header.vertices_high))

-- WHAT A RUN LEADS TO: nothing, one transition, one run and then another
pub targets_none : {b : List ℕ} {a : ℕ} {s : Set} → WithTargets b a a s s
targets_none = record { exactly = λ w. (inl, ⊎_elim (λ h. h) (λ (i, p, q, e). absurd (omega (arith, p, q)))) }

pub targets_one : {b : List ℕ} (i : ℕ) {t : ℕ} {s r : Set} → t ≡ to_of b i → ((w : ℕ) → Has r w ↔ (Has s w ⊎ (w ≡ t)))
    → WithTargets b i (i + 1) s r
targets_one {b} i {t} {s} {r} e W = record {
  exactly = λ w. (
    λ h. ⊎_map (λ g. g) (λ z. (i, le_refl i, omega arith, sym e ∙ sym z)) ((W w).0 h),
    λ h. (W w).1 (⊎_map (λ g. g) (λ (j, p, q, z). sym z ∙ ap (to_of b) (omega (arith, p, q)) ∙ sym e) h),
  );
}

pub targets_then : {b : List ℕ} {a i e : ℕ} {s q r : Set} → a ≤ i → i ≤ e
    → WithTargets b a i s q → WithTargets b i e q r → WithTargets b a e s r
targets_then {b} {a} {i} {e} {s} {q} {r} l h F G = record {
  exactly = λ w. (
    λ g. ⊎_elim
        (λ k. ⊎_map (λ z. z) (λ (j, m, n, z). (j, m, omega arith, z)) ((F.exactly w).0 k))
        (λ (j, m, n, z). inr (j, omega arith, n, z))
        ((G.exactly w).0 g),
    λ g. (G.exactly w).1 (⊎_elim (λ k. inl ((F.exactly w).1 (inl k))) (part w) g),
  );
}
  where
    part : (w : ℕ) → RunLeads b a e w → Has q w ⊎ RunLeads b i e w
    part w (j, m, n, z) = by_cases (dec_lt j i) (λ k. inl ((F.exactly w).1 (inr (j, m, k, z)))) (λ k. inr (j, omega arith, n, z))

-- a first part of it: nothing, and more
module _ {b : List ℕ} {P : ℕ → Type 0} {a e : ℕ} {s : Set} where
  pub took_none : a ≤ e → Took b P a e s (record { set = s; at = a })
  took_none h = record { from = le_refl a; to = h; each = λ i p q. absurd (omega (arith, p, q)); targets = targets_none }

  pub took_more : {i : ℕ} (k : ℕ) {q r : Set} → Took b P a e s (record { set = q; at = i }) → i ≤ k → k ≤ e
      → ((j : ℕ) → i ≤ j → j < k → P j) → WithTargets b i k q r → Took b P a e s (record { set = r; at = k })
  took_more {i} k T l h f W = record {
    from = omega (arith, T.from);
    to = h;
    each = λ j p q. by_cases (dec_lt j i) (T.each j p) (λ n. f j (omega arith) q);
    targets = targets_then T.from l T.targets W;
  }

  -- with another property that follows
  pub took_as : {Q : ℕ → Type 0} {r : Taken} → ((i : ℕ) → P i → Q i) → Took b P a e s r → Took b Q a e s r
  took_as f T = record { from = T.from; to = T.to; each = λ i p q. f i (T.each i p q); targets = T.targets }

  -- one part, and then another
  pub took_then : {q r : Taken} → Took b P a e s q → Took b P q.at e q.set r → Took b P a e s r
  took_then {r = r} T U = took_more r.at T U.from U.to U.each U.targets

  -- one transition more, which leads to t
  pub took_one : {i : ℕ} {t : ℕ} {q r : Set} → Took b P a e s (record { set = q; at = i }) → i < e → P i → t ≡ to_of b i
      → ((w : ℕ) → Has r w ↔ (Has q w ⊎ (w ≡ t))) → Took b P a e s (record { set = r; at = i + 1 })
  took_one {i} T h p z W = took_more (i + 1) T (omega arith) (omega arith) (λ j m n. subst P (omega (arith, m, n)) p) (targets_one i z W)

-- branches up to an entry, then entries up to a branch: that gets on
pub gets_on : {b : List ℕ} (labels : List ℕ) {P Q : ℕ → Type 0} {i e : ℕ} {s t : Set} {q r : Taken} → i < e
    → Took b P i e s q → (q.at < e → IsEntry labels q.at) → Took b Q q.at e t r → (r.at < e → IsBranch labels r.at) → i < r.at
gets_on labels {i = i} {e} {q = q} {r} h T f U g = by_cases (dec_lt i r.at) (λ l. l) (λ l.
    let z : q.at ≡ i = omega (arith, l, T.from, U.from) in
    let y : r.at ≡ i = omega (arith, l, T.from, U.from) in
    let n : 0 < get_or labels i 0 = rw z at (f (omega arith)) in
    let m : get_or labels i 0 ≡ 0 = rw y at (g (omega arith)) in
    absurd (omega arith))

-- u comes into the sets of the levels of a run: of none, and of one transition more
pub levels_none : (labels : List ℕ) {a u : ℕ} {t : List ℕ} → Gains (LevelsOf labels a a u) t t
levels_none labels = gains_none (λ x y (z, (i, p, q, e)). omega (arith, p, q))

pub levels_one : (labels : List ℕ) {a u : ℕ} (i : ℕ) {l : ℕ} {t q r : List ℕ} → a ≤ i → l ≡ get_or labels i 0
    → Gains (LevelsOf labels a i u) t q → Gains (λ (x y : ℕ). (x ≡ l) × (y ≡ u)) q r → Gains (LevelsOf labels a (i + 1) u) t r
levels_one labels i h el G H = gains_then G H (λ x y g. (
  ⊎_elim (λ (z, (j, p, k, e)). (z, (j, p, omega arith, e))) (λ (e, z). (z, (i, h, omega arith, sym el ∙ sym e))),
  λ (z, (j, p, k, e)). by_cases (ℕ_discrete j i)
      (λ f. inr (sym (subst (λ (m : ℕ). get_or labels m 0 ≡ x) f e) ∙ sym el, z))
      (λ f. inl (z, (j, p, omega arith, e))),
))

-- of one run and then another, and of a run with one label
pub levels_then : (labels : List ℕ) {a i e u : ℕ} {t q r : List ℕ} → a ≤ i → i ≤ e → Gains (LevelsOf labels a i u) t q
    → Gains (LevelsOf labels i e u) q r → Gains (LevelsOf labels a e u) t r
levels_then labels {i = i} l h G H = gains_then G H (λ x y g. (
  ⊎_elim (λ (z, (j, p, k, e)). (z, (j, p, omega arith, e))) (λ (z, (j, p, k, e)). (z, (j, omega arith, k, e))),
  λ (z, (j, p, k, e)). by_cases (dec_lt j i) (λ m. inl (z, (j, p, m, e))) (λ m. inr (z, (j, omega arith, k, e))),
))

pub levels_run : (labels : List ℕ) {a e u l : ℕ} {t r : List ℕ} → a < e → ((i : ℕ) → a ≤ i → i < e → HasLabel labels l i)
    → Gains (λ (x y : ℕ). (x ≡ l) × (y ≡ u)) t r → Gains (LevelsOf labels a e u) t r
levels_run labels {a} h f = gains_as (λ x y g. (
  λ (p, q). (q, (a, le_refl a, h, f a (le_refl a) h ∙ sym p)),
  λ (q, (i, m, n, z)). (sym z ∙ f i m n, q),
))

-- the lowest of two numbers' bytes, and the rest
digit : (a b x y : ℕ) → a < 256 → b < 256 → a + 256 * x ≡ b + 256 * y → (a ≡ b) × (x ≡ y)
digit a b x y h k e =
    let p : (a + 256 * x) % 256 ≡ a = omega (arith, h) in
    let q : (b + 256 * y) % 256 ≡ b = omega (arith, k) in
    let z = sym p ∙ ap (λ (t : ℕ). t % 256) e ∙ q in
    (z, omega (arith, e, z))

-- eight labels as two numbers of four bytes each
pub eight_same : (labels : List ℕ) {at l : ℕ} → Bytes labels → l < 256 → four_at labels at ≡ 16843009 * l
    → four_at labels (at + 4) ≡ 16843009 * l → (i : ℕ) → at ≤ i → i < at + 8 → HasLabel labels l i
eight_same labels {at} {l} B h e f i p q = by_cases (dec_lt i (at + 4))
    (λ m. four_same at e i p m)
    (λ m. four_same (at + 4) f i (omega arith) (omega arith))
  where
    four_same : (at : ℕ) → four_at labels at ≡ 16843009 * l → (i : ℕ) → at ≤ i → i < at + 4 → HasLabel labels l i
    four_same at e i p q =
        let b0 = B at in
        let b1 = B (at + 1) in
        let b2 = B (at + 2) in
        let x = get_or labels (at + 1) 0 in
        let y = get_or labels (at + 2) 0 in
        let z = get_or labels (at + 3) 0 in
        let (z0, e1) = digit _ _ (x + 256 * (y + 256 * z)) (l + 256 * (l + 256 * l)) b0 h (omega (arith, e)) in
        let (z1, e2) = digit _ _ (y + 256 * z) (l + 256 * l) b1 h e1 in
        let (z2, z3) = digit _ _ _ _ b2 h e2 in
        by_cases (ℕ_discrete i at) (λ k. rw k z0)
        (λ k0. by_cases (ℕ_discrete i (at + 1)) (λ k. rw k z1)
        (λ k1. by_cases (ℕ_discrete i (at + 2)) (λ k. rw k z2)
        (λ k2. let k : i ≡ at + 3 = omega (arith, p, q, k0, k1, k2) in rw k z3)))

-- eight labels that are 0 as one word
pub eight_branches : {labels : List ℕ} {i r : ℕ} → Bytes labels → Packed labels i 8 r → r ≡ 0
    → (j : ℕ) → i ≤ j → j < i + 8 → IsBranch labels j
eight_branches {labels} {i} {r} B P z j l h = no_bit 8 (get_or labels j 0) (B j) (λ k m on.
    let e : i + (8 * (j - i) + k) / 8 ≡ j = omega arith in
    let f : (8 * (j - i) + k) % 8 ≡ k = omega arith in
    zero_off (8 * (j - i) + k) (rw z at ((P.exactly (8 * (j - i) + k) (omega arith)).1 (rw (e, f) on))))

-- THE RUN OF ONE LEVEL: it gets on
pub run_on : (labels : List ℕ) {b : List ℕ} {l i e : ℕ} {s : Set} {r : Taken} → l ≡ get_or labels i 0 → i < e
    → Took b (HasLabel labels l) i e s r → (r.at < e → ¬ HasLabel labels l r.at) → i < r.at
run_on labels {i = i} {r = r} el h T f = by_cases (dec_lt i r.at) (λ g. g) (λ g.
    let z : r.at ≡ i = omega (arith, g, T.from) in
    absurd (f (omega arith) (rw z (sym el))))

-- a branch brings no entry
pub one_branch : (b labels : List ℕ) {i m w : ℕ} → IsBranch labels i → 0 < m → ¬ RunSteps b labels i (i + 1) m w
one_branch b labels {i} {m} z h (j, p, q, e, f) =
    let y : j ≡ i = omega arith in
    let x : get_or labels i 0 ≡ m = rw y at e in
    omega arith

-- its level comes into one table, what it leads to into the other
module _ (labels : List ℕ) {b : List ℕ} {l i e : ℕ} {r : Taken} (T : Took b (HasLabel labels l) i e empty_set r)
    (some : 0 < l) (on : i < r.at) where
  label_of : {m w : ℕ} → RunSteps b labels i r.at m w → m ≡ l
  label_of (j, p, q, e, f) = sym e ∙ T.each j p q

  pub run_levels : {a c : List ℕ} → Gains (λ (x y : ℕ). (x ≡ l / 128) × (y ≡ l % 128)) a c
      → Gains (RunLevels b labels i r.at) a c
  run_levels = gains_as (λ x y g. (
    λ (p, q). let z : l ≡ 128 * x + y = omega arith in
        (omega arith, to_of b i, (i, le_refl i, on, T.each i (le_refl i) on ∙ z, refl)),
    λ (h, w, s). let z = label_of s in (omega arith, omega arith),
  ))

  pub run_targets : {a c : List ℕ} → Gains (λ (x y : ℕ). (x ≡ l) × Has r.set y) a c
      → Gains (RunTargets b labels i r.at) a c
  run_targets = gains_as (λ x y g. (
    λ (z, h). ⊎_elim
        (λ k. absurd (none y k))
        (λ (j, p, q, et). (omega arith, (j, p, q, T.each j p q ∙ sym z, et)))
        ((T.targets.exactly y).0 h),
    λ (h, s). (label_of s, (T.targets.exactly y).1 (inr (s.0, s.1, s.2, s.4))),
  ))
