-- The answer of the checks 42 to 45: there is only one, nothing fails exactly for a bisimulation, and the test gives it.
use mathlib.Core.Path.{◌≡◌, refl, sym, ◌∙◌, ap, subst}
use mathlib.Core.Logic.{◌⊎◌, inl, inr, ⊎_elim, ◌↔◌}
use mathlib.Core.Bool.{Bool, true, false, cond, not, false≢true}
use Prim.Native.Nat.{ℕ, ◌≤◌, ◌<◌}
use native.Mathlib.Omega.{arith}
use lib.Dec.{eqb, ltb}
use borrow.Author.Tests.{ltb-true, ltb-false}
use Rattle.theory.specs.Least.{Least, Earlier, FirstPair}
use Rattle.theory.specs.Systems.{Bisimulation, converse}
use Rattle.theory.specs.Relations.{Indexed, indexed, Matched, Unmatched, AllMatched, PairPasses, RelationOutcome, related, starts_apart, ends_apart, left_unmatched, right_unmatched, PairFails, fails_43, fails_44, fails_45, RelationChecked, all_pass, fails_42, fails_pair}
use Rattle.theory.specs.Tests.{Decides, lowest, first_row}
use Rattle.theory.specs.RelationTests.{RelationTest, matched_test, unmatched_test, same, pair_failed, pair_outcome, failing_pair, relation_outcome}
use Rattle.theory.proofs.Search.{least_one, same_or_earlier}
use Rattle.theory.proofs.Tests.{decided, not_so, decides_same, decides_and, decides_not, decides_eqb, decides_below, lowest_stops, stops_least, first_pair}

-- THERE IS ONLY ONE ANSWER
some_unmatched : (M N : Indexed) (R : ℕ → ℕ → Type 0) (u v : ℕ) {r : ℕ} → AllMatched M N R u v → ¬ Least (Unmatched M N R u v) r
some_unmatched M N R u v c h = let (a, b, n) = h.holds in n (c _ a b)

module _ {M N : Indexed} {R : ℕ → ℕ → Type 0} {u v : ℕ} where
  pub pair_not_passes : {o : RelationOutcome} → PairFails M N R u v o → ¬ PairPasses M N R u v
  pair_not_passes (fails_43 h) c = h c.c43
  pair_not_passes (fails_44 h r) c = some_unmatched M N R u v c.c44 r
  pair_not_passes (fails_45 h g r) c = some_unmatched N M (converse R) v u c.c45 r

  one_failure : {o o' : RelationOutcome} → PairFails M N R u v o → PairFails M N R u v o' → o ≡ o'
  one_failure (fails_43 h) (fails_43 g) = refl
  one_failure (fails_43 h) (fails_44 g r) = absurd (h g)
  one_failure (fails_43 h) (fails_45 g i r) = absurd (h g)
  one_failure (fails_44 h r) (fails_43 g) = absurd (g h)
  one_failure (fails_44 h r) (fails_44 g q) = ap (left_unmatched u v) (least_one r q)
  one_failure (fails_44 h r) (fails_45 g i q) = absurd (some_unmatched M N R u v i r)
  one_failure (fails_45 h i r) (fails_43 g) = absurd (g h)
  one_failure (fails_45 h i r) (fails_44 g q) = absurd (some_unmatched M N R u v i q)
  one_failure (fails_45 h i r) (fails_45 g j q) = ap (right_unmatched u v) (least_one r q)

module _ {M N : Indexed} {R : ℕ → ℕ → Type 0} where
  -- no two checks answer at once
  pub one_relation_outcome : {o o' : RelationOutcome} → RelationChecked M N R o → RelationChecked M N R o' → o ≡ o'
  one_relation_outcome (all_pass s p) (all_pass z q) = refl
  one_relation_outcome (all_pass s p) (fails_42 h) = absurd (h s)
  one_relation_outcome (all_pass s p) (fails_pair z x e f) = absurd (pair_not_passes f (p _ _ x))
  one_relation_outcome (fails_42 h) (all_pass z q) = absurd (h z)
  one_relation_outcome (fails_42 h) (fails_42 g) = refl
  one_relation_outcome (fails_42 h) (fails_pair z x e f) = absurd (h z)
  one_relation_outcome (fails_pair s x e f) (all_pass z q) = absurd (pair_not_passes f (q _ _ x))
  one_relation_outcome (fails_pair s x e f) (fails_42 h) = absurd (h s)
  one_relation_outcome {o} {o'} (fails_pair {u = u} {v = v} s x e f) (fails_pair {u = a} {v = b} z y g h) = go (same_or_earlier u v a b)
    where
      go : ((u ≡ a) × (v ≡ b)) ⊎ (Earlier u v a b ⊎ Earlier a b u v) → o ≡ o'
      go (inl (p, q)) = one_failure f (rw (p, q) h)
      go (inr (inl p)) = absurd (pair_not_passes f (g u v p x))
      go (inr (inr p)) = absurd (pair_not_passes h (e a b p y))

  -- NOTHING FAILS EXACTLY FOR A BISIMULATION
  all_pass_of : RelationChecked M N R related → R M.start N.start × ((u v : ℕ) → R u v → PairPasses M N R u v)
  all_pass_of c = go c refl
    where
      go : {o : RelationOutcome} → RelationChecked M N R o → o ≡ related → R M.start N.start × ((u v : ℕ) → R u v → PairPasses M N R u v)
      go (all_pass s p) e = (s, p)
      go (fails_42 h) e = absurd (let z : ◌≡◌ {A = ℕ} 0 1 = cc in omega arith)
      go (fails_pair s x g (fails_43 h)) e = absurd (let z : ◌≡◌ {A = ℕ} 0 1 = cc in omega arith)
      go (fails_pair s x g (fails_44 h r)) e = absurd (let z : ◌≡◌ {A = ℕ} 0 1 = cc in omega arith)
      go (fails_pair s x g (fails_45 h i r)) e = absurd (let z : ◌≡◌ {A = ℕ} 0 1 = cc in omega arith)

  pub related_iff_bisimulation : RelationChecked M N R related ↔ Bisimulation (indexed M) (indexed N) R
  related_iff_bisimulation = (to, from)
    where
      to : RelationChecked M N R related → Bisimulation (indexed M) (indexed N) R
      to c = let (s, p) = all_pass_of c in record {
        starts = s;
        ends = λ u v x. (p u v x).c43;
        forth = λ u v x a u' (i, b, f, g, h). let (j, d, k, l, y) = (p u v x).c44 i b f in (N.to j, (j, d, k, l ∙ g, refl), subst (λ (z : ℕ). R z (N.to j)) h y);
        back = λ u v x a v' (j, b, f, g, h). let (i, d, k, l, y) = (p u v x).c45 j b f in (M.to i, (i, d, k, l ∙ g, refl), subst (λ (z : ℕ). R (M.to i) z) h y);
      }

      from : Bisimulation (indexed M) (indexed N) R → RelationChecked M N R related
      from b = all_pass b.starts (λ u v x. record {
        c43 = b.ends u v x;
        c44 = λ i h f. let (w, (j, d, k, l, m), y) = b.forth u v x (M.action i) (M.to i) (i, h, f, refl, refl) in (j, d, k, l, subst (λ (z : ℕ). R (M.to i) z) (sym m) y);
        c45 = λ j h f. let (w, (i, d, k, l, m), y) = b.back u v x (N.action j) (N.to j) (j, h, f, refl, refl) in (i, d, k, l, subst (λ (z : ℕ). R z (N.to j)) (sym m) y);
      })

-- THE TEST
module _ (M N : Indexed) {t : RelationTest} {R : ℕ → ℕ → Type 0} (tests : (u v : ℕ) → Decides (t u v) (R u v)) where
  pub decides_matched : (v i : ℕ) → Decides (matched_test M N t v i) (Matched M N R v i)
  unfolding matched_test
  decides_matched v i = decides_same ((λ (j, h, (a, (b, c))). (j, h, a, b, c)), (λ (j, h, a, b, c). (j, h, (a, (b, c)))))
      (decides_below (λ j. decides_and (decides_eqb (N.from j) v) (decides_and (decides_eqb (N.action j) (M.action i)) (tests (M.to i) (N.to j)))) N.count)

  -- a transition that leaves u and is not matched, its index aside
  abbrev Loose : ℕ → ℕ → ℕ → Type 0
  Loose u v i = (M.from i ≡ u) × (¬ Matched M N R v i)

  decides_loose : (u v i : ℕ) → Decides (unmatched_test M N t u v i) (Loose u v i)
  unfolding unmatched_test
  decides_loose u v i = decides_and (decides_eqb (M.from i) u) (decides_not (decides_matched v i))

  -- the lowest transition that is not matched, or all are
  pub lowest_unmatched : (u v : ℕ) → (lowest (unmatched_test M N t u v) 0 M.count < M.count → Least (Unmatched M N R u v) (lowest (unmatched_test M N t u v) 0 M.count)) × (M.count ≤ lowest (unmatched_test M N t u v) 0 M.count → AllMatched M N R u v)
  lowest_unmatched u v = (
    (λ h. let l = found.0 h in record { holds = (h, l.holds.0, l.holds.1); lowest = λ k b q. l.lowest k b (q.1, q.2) }),
    (λ h i b f. elim (decided (decides_matched v i)) [ yes m ↦ m | no n ↦ absurd (found.1 h i b (f, n)) ]),
  )
    where
      found : (lowest (unmatched_test M N t u v) 0 M.count < M.count → Least (Loose u v) (lowest (unmatched_test M N t u v) 0 M.count)) × (M.count ≤ lowest (unmatched_test M N t u v) 0 M.count → (k : ℕ) → k < M.count → ¬ Loose u v k)
      found = stops_least (decides_loose u v) (lowest_stops (unmatched_test M N t u v) 0 M.count)

decides_ends : (u v : ℕ) → Decides (same (eqb u 0) (eqb v 0)) ((u ≡ 0) ↔ (v ≡ 0))
decides_ends u v = go (eqb u 0) (eqb v 0) (decides_eqb u 0) (decides_eqb v 0)
  where
    go : (a b : Bool) → Decides a (u ≡ 0) → Decides b (v ≡ 0) → Decides (same a b) ((u ≡ 0) ↔ (v ≡ 0))
    go true b d e = ((λ h. ((λ q. e.0 h), (λ q. d.0 refl))), (λ h. e.1 (h.0 (d.0 refl))))
    go false true d e = ((λ h. absurd (false≢true h)), (λ h. absurd (not_so d refl (h.1 (e.0 refl)))))
    go false false d e = ((λ h. ((λ q. absurd (not_so d refl q)), (λ q. absurd (not_so e refl q)))), (λ h. refl))

module _ (M N : Indexed) {t : RelationTest} {R : ℕ → ℕ → Type 0} (tests : (u v : ℕ) → Decides (t u v) (R u v)) where
  abbrev PairAnswer : ℕ → ℕ → RelationOutcome → Type 0
  PairAnswer u v o = ((o ≡ related) × PairPasses M N R u v) ⊎ PairFails M N R u v o

  pair_answer : (u v : ℕ) → PairAnswer u v (pair_outcome M N t u v)
  unfolding pair_outcome
  pair_answer u v = go (same (eqb u 0) (eqb v 0)) (ltb i M.count) (ltb j N.count) (decides_ends u v) refl refl
    where
      i : ℕ
      i = lowest (unmatched_test M N t u v) 0 M.count

      j : ℕ
      j = lowest (unmatched_test N M (λ y x. t x y) v u) 0 N.count

      left : (i < M.count → Least (Unmatched M N R u v) i) × (M.count ≤ i → AllMatched M N R u v)
      left = lowest_unmatched M N tests u v

      right : (j < N.count → Least (Unmatched N M (converse R) v u) j) × (N.count ≤ j → AllMatched N M (converse R) v u)
      right = lowest_unmatched N M {t = λ y x. t x y} {R = converse R} (λ y x. tests x y) v u

      go : (a b c : Bool) → Decides a ((u ≡ 0) ↔ (v ≡ 0)) → ltb i M.count ≡ b → ltb j N.count ≡ c → PairAnswer u v (cond (not a) (ends_apart u v) (cond b (left_unmatched u v i) (cond c (right_unmatched u v j) related)))
      go false b c d e f = inr (fails_43 (not_so d refl))
      go true true c d e f = inr (fails_44 (d.0 refl) (left.0 (ltb-true i M.count e)))
      go true false true d e f = inr (fails_45 (d.0 refl) (left.1 (ltb-false i M.count e)) (right.0 (ltb-true j N.count f)))
      go true false false d e f = inl (refl, record { c43 = d.0 refl; c44 = left.1 (ltb-false i M.count e); c45 = right.1 (ltb-false j N.count f) })

  fails_failed : {u v : ℕ} {o : RelationOutcome} → PairFails M N R u v o → pair_failed o ≡ true
  fails_failed (fails_43 h) = refl
  fails_failed (fails_44 h r) = refl
  fails_failed (fails_45 h g r) = refl

  abbrev Failing : ℕ → ℕ → Type 0
  Failing u v = R u v × PairFails M N R u v (pair_outcome M N t u v)

  decides_failing : (u v : ℕ) → Decides (failing_pair M N t u v) (Failing u v)
  unfolding failing_pair
  decides_failing u v = decides_and (tests u v) (go (pair_outcome M N t u v) (pair_answer u v))
    where
      go : (o : RelationOutcome) → PairAnswer u v o → Decides (pair_failed o) (PairFails M N R u v o)
      go o (inl (e, c)) = ((λ h. absurd (false≢true (sym (ap pair_failed e) ∙ h))), (λ f. absurd (pair_not_passes f c)))
      go o (inr f) = ((λ h. f), (λ g. fails_failed f))

  not_failing : (u v : ℕ) → ¬ Failing u v → R u v → PairPasses M N R u v
  not_failing u v h x = ⊎_elim (λ (e, c). c) (λ f. absurd (h (x, f))) (pair_answer u v)

  pub relation_checked : (rows columns : ℕ) → ((u v : ℕ) → R u v → (u < rows) × (v < columns)) → RelationChecked M N R (relation_outcome M N t rows columns)
  unfolding relation_outcome
  relation_checked rows columns low = go (t M.start N.start) (ltb u rows) (tests M.start N.start) refl
    where
      u : ℕ
      u = first_row (failing_pair M N t) rows columns

      v : ℕ
      v = lowest (failing_pair M N t u) 0 columns

      found : (u < rows → FirstPair Failing u v) × (rows ≤ u → (a b : ℕ) → ¬ Failing a b)
      found = first_pair decides_failing rows columns (λ a b f. low a b f.0)

      first : R M.start N.start → FirstPair Failing u v → RelationChecked M N R (pair_outcome M N t u v)
      first s f = fails_pair s f.holds.0 (λ a b e. not_failing a b (f.earlier a b e)) f.holds.1

      go : (a b : Bool) → Decides a (R M.start N.start) → ltb u rows ≡ b → RelationChecked M N R (cond (not a) starts_apart (cond b (pair_outcome M N t u v) related))
      go false b d e = fails_42 (not_so d refl)
      go true true d e = first (d.0 refl) (found.0 (ltb-true u rows e))
      go true false d e = all_pass (d.0 refl) (λ a b. not_failing a b (found.1 (ltb-false u rows e) a b))
