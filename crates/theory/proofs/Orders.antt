-- Orders of all loops: one exists, and each runs through, leaves exactly the branches, and then no vertex has an infinite path.
use mathlib.Core.Path.{◌≡◌, refl, ap, subst}
use mathlib.Core.Logic.Iff
use mathlib.Core.Logic.{◌≢◌, inl, ⊎_elim, ◌↔◌}
use mathlib.Core.Bool.{Bool}
use mathlib.Core.List.Memᴰ
use mathlib.Core.List.{List, [], ◌∷◌, map, Memᴰ}
use Prim.Native.Nat.{ℕ, ◌<◌}
use Rattle.theory.specs.Paths.{Plus, Endless}
use Rattle.theory.specs.Charts.{Steps, Formed, Listed, Any, Branch, Loop}
use Rattle.theory.specs.LoopCharts.{InLoop}
use Rattle.theory.specs.Checks.{Passed}
use Rattle.theory.specs.Standing.{Loops, Agree, Inside}
use Rattle.theory.specs.Removals.{Answer, done, Plain, left_loops, RemovesAll, PlainAll, all_done}
use Rattle.theory.specs.Orders.{Pair, Distinct, Before, Order}
use Rattle.theory.proofs.Paths.{plus_star, endless_map}
use Rattle.theory.proofs.Checks.{passed_no_endless}
use Rattle.theory.specs.Tests.{Decides, pairs}
use Rattle.theory.specs.LabellingTests.{loop_test}
use Rattle.theory.proofs.LabellingTests.{decides_loop, listed_test, listed_tests}
use Rattle.theory.proofs.Pairs.{before_cases, before_second, before_map, distinct_cons, distinct_map, pairs→, pairs←, pairs_distinct, pairs_before}
use Rattle.theory.proofs.Removals.{agree_at_first, agree_same, rule_of, left_agree, left_loops_are, removals_agree}

-- EACH ORDER RUNS THROUGH
-- what an order says of the loops that are still to come
record Waiting (S : Steps) (X : Loops) (xs : List Pair) : Type 0 where
  pub same : (v l : ℕ) → X v l ↔ Memᴰ (v, l) xs
  pub once : Distinct xs
  pub waits : (v l w m : ℕ) → Memᴰ (v, l) xs → Memᴰ (w, m) xs → w ≢ v → Plus (InLoop S v l) v w → Before (w, m) (v, l) xs

module _ {S : Steps} {X : Loops} {v l : ℕ} {xs : List Pair} (c : Waiting S X ((v, l) ∷ xs)) where
  apart : ¬ Memᴰ (v, l) xs
  apart = (distinct_cons c.once).0

  first_free : ¬ Inside S X v l
  first_free (w, m, x, h, p) =
      ⊎_elim (λ (e, i). h (ap (λ (q : Pair). q.0) e)) (λ b. apart (before_second b))
      (before_cases (c.waits v l w m (Memᴰ.head refl) ((c.same w m).0 x) h p))

  rest_waits : Waiting S (left_loops done v l X) xs
  rest_waits = record {
    same = λ u m. (
      (λ (x, g). ⊎_elim (λ (e : (u, m) ≡ (v, l)). absurd (g (ap (λ (q : Pair). q.0) e, ap (λ (q : Pair). q.1) e))) (λ i. i) (Memᴰ.cases_cons ((c.same u m).0 x))),
      (λ i. ((c.same u m).1 (Memᴰ.tail i), (λ (e, f). apart (subst (λ (q : ℕ). Memᴰ (v, q) xs) f (subst (λ (q : ℕ). Memᴰ (q, m) xs) e i))))),
    );
    once = (distinct_cons c.once).1;
    waits = λ u m w k i j h p. ⊎_elim
        (λ (e, n). absurd (apart (subst (λ (q : Pair). Memᴰ q xs) e j)))
        (λ b. b)
        (before_cases (c.waits u m w k (Memᴰ.tail i) (Memᴰ.tail j) h p));
  }

plain_order : {S : Steps} {X : Loops} (xs : List Pair) → Waiting S X xs → (Y : Loops) × PlainAll S X xs (all_done xs) Y × ((v l : ℕ) → ¬ Y v l)
plain_order {X = X} [] c = (X, PlainAll.none, λ v l x. Memᴰ.not-nil ((c.same v l).0 x))
plain_order ((v, l) ∷ xs) c =
    let (Y, p, e) = plain_order xs (rest_waits c) in
    (Y, PlainAll.call (Plain.goes ((c.same v l).1 (Memᴰ.head refl)) (first_free c)) (λ u m. Iff.rfl) p, e)

order_waits : {S : Steps} (xs : List Pair) → Order S xs → Waiting S (Loop S) xs
order_waits xs order = record {
  same = λ v l. (order.loops.every v l, order.loops.only v l);
  once = order.loops.once;
  waits = λ v l w m i j. order.waits v l w m (order.loops.only v l i) (order.loops.only w m j);
}

-- the plain set lets an order through, and is empty after it
pub order_plain : {S : Steps} (xs : List Pair) → Order S xs
    → (Y : Loops) × PlainAll S (Loop S) xs (all_done xs) Y × ((v l : ℕ) → ¬ Y v l)
order_plain xs order = plain_order xs (order_waits xs order)

module _ {size : ℕ} {S : Steps} (formed : Formed size S) (passed : Passed S) where
  -- where the plain set has answers, the rule has the same
  pub rules_of : {X Y : Loops} {R : Steps} → ((v l : ℕ) → X v l → Loop S v l) → Agree S X R → {cs : List Pair} {ys : List Answer} → PlainAll S X cs ys Y → (Q : Steps) × RemovesAll R cs ys Q × Agree S Y Q
  rules_of {R = R} loops agree PlainAll.none = (R, RemovesAll.none, agree)
  rules_of {X = X} {R = R} loops agree (PlainAll.call {v = v} {l = l} {a = a} p stay ps) =
      let here = agree_same S stay (λ u m w. Iff.rfl) (left_agree formed passed loops agree v l a p) in
      let (Q, q, g) = rules_of (λ u m x. left_loops_are formed passed loops agree v l a u m ((stay u m).0 x)) here ps in
      (Q, RemovesAll.call (rule_of formed passed loops agree v l p) (λ u m w. Iff.rfl) q, g)

  -- where no loop remains exactly the branches stand, and no vertex has an infinite path
  module _ {Y : Loops} {Q : Steps} (agree : Agree S Y Q) (none_left : (v l : ℕ) → ¬ Y v l) where
    pub only_branches : (u l w : ℕ) → Q u l w ↔ (S u l w × (l ≡ 0))
    only_branches u l w = (
      (λ e. let (s, c) = (agree u l w).0 e in (s, ⊎_elim (λ z. z) (λ y. absurd (none_left u l y)) c)),
      (λ (s, z). (agree u l w).1 (s, inl z)),
    )

    branch : (u w : ℕ) → Any Q u w → Branch S u w
    branch u w (l, e) = let (s, z) = (only_branches u l w).0 e in rw z at s

    pub no_endless : (v : ℕ) → ¬ Endless (Any Q) v
    no_endless v p = passed_no_endless formed passed v (endless_map branch p)

  module _ (xs : List Pair) (order : Order S xs) where
    -- an order runs with no refusal
    pub order_runs : (Q : Steps) × RemovesAll S xs (all_done xs) Q
    order_runs = let (Y, p, e) = order_plain xs order in let (Q, q, g) = rules_of (λ v l o. o) (agree_at_first S) p in (Q, q)

    -- whatever way it is run: no refusal, exactly the branches are left, and no vertex has an infinite path
    pub order_leaves : {ys : List Answer} {Q : Steps} → RemovesAll S xs ys Q → (ys ≡ all_done xs) × ((u l w : ℕ) → Q u l w ↔ (S u l w × (l ≡ 0))) × ((v : ℕ) → ¬ Endless (Any Q) v)
    order_leaves r =
        let (Y, p, none_left) = order_plain xs order in
        let (e, agree) = removals_agree formed passed (λ v l o. o) (agree_at_first S) r p in
        (e, only_branches agree none_left, no_endless agree none_left)

-- AN ORDER EXISTS: by level, and by vertex in each level
swap : Pair → Pair
swap x = (x.1, x.0)

module _ {size top : ℕ} {S : Steps} (formed : Formed size S) (listed : Listed top S) where
  -- is (v, l) a loop? The level first
  by_level : ℕ → ℕ → Bool
  by_level l v = loop_test (listed_test formed listed) size top v l

  decides_by_level : (l v : ℕ) → Decides (by_level l v) (Loop S v l)
  unfolding by_level
  decides_by_level l v = decides_loop (listed_tests formed listed) formed listed.label_below v l

  levels : List Pair
  levels = pairs by_level top size

  in_range : (v l : ℕ) → Loop S v l → (l < top) × (v < size)
  in_range v l (h, w, e) = (listed.label_below v l w e, (formed.from_vertex v l w e).1)

  pub order_exists : Passed S → (xs : List Pair) × Order S xs
  unfolding levels swap
  order_exists c = (
    map swap levels,
    record {
      loops = record {
        every = λ v l o. Memᴰ.map swap (pairs← by_level top size l v (in_range v l o) ((decides_by_level l v).1 o));
        only = λ v l i. let (x, m, e) = Memᴰ.of_map swap levels i in (decides_by_level l v).0 (pairs→ by_level top size l v (subst (λ (q : Pair). Memᴰ q levels) (ap swap e) m)).2;
        once = distinct_map swap (λ x y e. ap swap e) (pairs_distinct by_level top size);
      };
      waits = λ v l w m o p h q. before_map swap (pairs_before by_level top size m w l v (inl ((c.loops v l o).c35 w h (plus_star q) m p)) (in_range w m p) ((decides_by_level m w).1 p) (in_range v l o) ((decides_by_level l v).1 o));
    },
  )
