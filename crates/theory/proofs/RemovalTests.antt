-- The tests of a removal give the answers of the rule and of the plain set; so every list of calls has answers.
use mathlib.Core.Path.{◌≡◌, refl, sym, ap}
use mathlib.Core.Logic.Iff
use mathlib.Core.Logic.{◌≢◌, ◌⊎◌, inl, inr, ◌↔◌}
use mathlib.Core.Bool.{Bool, true, false, cond, ◌&&◌, ◌||◌, not}
use mathlib.Core.List.{List, [], ◌∷◌}
use Prim.Native.Nat.{ℕ, zero, suc, ◌<◌, ◌≤◌}
use native.Mathlib.Decide.{ℕ_discrete}
use native.Mathlib.Omega.{arith}
use lib.Dec.{eqb, ltb}
use lib.ListN.{length}
use Rattle.theory.specs.Paths.{Endless, Returns}
use Rattle.theory.specs.Charts.{Steps, Formed, Listed, Any, Loop}
use Rattle.theory.specs.LoopCharts.{Around, Reached, Stray}
use Rattle.theory.specs.Standing.{Loops, DecidedLoops, Inside}
use Rattle.theory.specs.Removals.{Answer, done, refused_51, refused_52, Removes, Plain, left_steps, left_loops, RemovesAll, PlainAll}
use Rattle.theory.specs.Least.{Least}
use Rattle.theory.specs.Orders.{Pair}
use Rattle.theory.specs.MultiSteps.{loop_at, InBodyOf, single, refused_57, RemovesAt, EachGoes, StartInside}
use Rattle.theory.specs.MultiSteps.{RemovesTogether, refused, inside, goes}
use Rattle.theory.specs.Tests.{Decides, lowest}
use Rattle.theory.specs.LabellingTests.{StepTest, loop_test}
use Rattle.theory.specs.RemovalTests.{around_test, stray_test, rule_answer, on_done, first_answer, start_inside_test}
use Rattle.theory.specs.RemovalTests.{group_answer, inside_test, plain_answer}
use Rattle.theory.proofs.Paths.{plus_below}
use Rattle.theory.proofs.Tests.{decided, decides_dec, test_of, not_so, decides_same, decides_and, decides_or}
use Rattle.theory.proofs.Tests.{decides_not, decides_eqb, decides_ltb, decides_below, lowest_stops, stops_least}
use Rattle.theory.proofs.Reachability.{decides_plus}
use Rattle.theory.proofs.Rounds.{body_iff, round_below, round_L1, round_L2, round_L3}
use Rattle.theory.proofs.Checks.{loop_to, loop_not_end}
use Rattle.theory.proofs.LabellingTests.{decides_round, decides_any, decides_loop, decides_body, listed_test, listed_tests}

-- r tests what stands
module _ {r : StepTest} {R : Steps} {size top : ℕ} (tests : (u l w : ℕ) → Decides (r u l w) (R u l w)) (formed : Formed size R) (labels : (u l w : ℕ) → R u l w → l < top) where
  any_below : (u w : ℕ) → Any R u w → w < size
  any_below u w (m, e) = formed.to_vertex u m w e

  decides_around : (v l w : ℕ) → Decides (around_test r size top v l w) (Reached v (R v l) (Any R) w)
  unfolding around_test
  decides_around v l w = decides_same (body_iff w)
      (decides_plus (decides_round (tests v l) (decides_any tests formed labels)) size (round_below size (λ x. formed.to_vertex v l x) any_below) v w)

  decides_stray : (v l : ℕ) → Decides (stray_test r size top v l) (Stray v (R v l) (Any R))
  unfolding stray_test
  decides_stray v l = decides_same
      ((λ (w, b, (h, (p, c))). (w, h, p, c)), (λ (w, h, p, c). (w, plus_below (λ x y q. any_below x y q.1) c, (h, (p, c)))))
      (decides_below (λ w. decides_and (decides_not (decides_eqb w v)) (decides_and (decides_around v l w) (decides_plus (λ u x. decides_and (decides_not (decides_eqb u v)) (decides_any tests formed labels u x)) size (λ x y q. any_below x y q.1) w w))) size)

  -- THE RULE: 51, then the first of L1, L2, L3 that is broken
  pub rule_answer_lem : (v l : ℕ) → Removes R v l (rule_answer r size top v l)
  unfolding rule_answer
  rule_answer_lem v l = go (loop_test r size top v l) (around_test r size top v l v || stray_test r size top v l) (stray_test r size top v l) (around_test r size top v l 0)
      (decides_loop tests formed labels v l) (decides_or (decides_around v l v) (decides_stray v l)) (decides_stray v l) (decides_around v l 0)
    where
      L1 : Endless (Around R v l) v ↔ (Reached v (R v l) (Any R) v ⊎ Stray v (R v l) (Any R))
      L1 = round_L1 size (λ w. formed.to_vertex v l w) any_below

      L2 : Returns (Around R v l) v ↔ (¬ Stray v (R v l) (Any R))
      L2 = round_L2 size (λ w. formed.to_vertex v l w) any_below

      go : (a b c d : Bool) → Decides a (Loop R v l) → Decides b (Reached v (R v l) (Any R) v ⊎ Stray v (R v l) (Any R)) → Decides c (Stray v (R v l) (Any R)) → Decides d (Reached v (R v l) (Any R) 0) → Removes R v l (cond (not a) (refused_51 v l) (cond (not b) (refused_52 v l 1) (cond c (refused_52 v l 2) (cond d (refused_52 v l 3) done))))
      go false b c d e f g h = Removes.absent (not_so e refl)
      go true false c d e f g h = Removes.breaks_L1 (e.0 refl) (λ p. not_so f refl (L1.0 p))
      go true true true d e f g h = Removes.breaks_L2 (e.0 refl) (L1.1 (f.0 refl)) (λ back. L2.0 back (g.0 refl))
      go true true false true e f g h = Removes.breaks_L3 (e.0 refl) (L1.1 (f.0 refl)) (L2.1 (not_so g refl)) ((round_L3 (loop_not_end formed (e.0 refl))).1 (h.0 refl))
      go true true false false e f g h = Removes.goes (e.0 refl) (record { L1 = L1.1 (f.0 refl); L2 = L2.1 (not_so g refl); L3 = λ p. not_so h refl ((round_L3 (loop_not_end formed (e.0 refl))).0 p) })

  -- SEVERAL TOGETHER: 51 and 52 of the first that is refused by itself, then 57
  -- each goes by itself, or a is what the first that does not go answers
  First : List Pair → Answer → Type 0
  First cs a = ((a ≡ done) × EachGoes R cs)
      ⊎ ((a ≢ done) × (i : ℕ) × (i < length cs) × ((j : ℕ) → j < i → RemovesAt R cs j done) × RemovesAt R cs i a)

  first_answer_lem : (cs : List Pair) → First cs (first_answer r size top cs)
  unfolding First first_answer
  first_answer_lem [] = inl (refl, λ i h. absurd (omega arith))
  first_answer_lem ((v, l) ∷ cs) = go (rule_answer r size top v l) (rule_answer_lem v l) (first_answer_lem cs)
    where
      go : (a : Answer) → Removes R v l a → First cs (first_answer r size top cs)
          → First ((v, l) ∷ cs) (on_done (λ (x : Answer). x) a (first_answer r size top cs))
      go (refused_51 u m) p f = inr ((λ e. let z : ◌≡◌ {A = ℕ} 0 1 = cc in omega arith), 0, omega arith, (λ j h. absurd (omega arith)), p)
      go (refused_52 u m q) p f = inr ((λ e. let z : ◌≡◌ {A = ℕ} 0 1 = cc in omega arith), 0, omega arith, (λ j h. absurd (omega arith)), p)
      go done p (inl (e, each)) = inl (e, from)
        where
          from : EachGoes R ((v, l) ∷ cs)
          from zero h = p
          from (suc j) h = each j (omega arith)
      go done p (inr (n, i, h, before, q)) = inr (n, suc i, omega arith, from, q)
        where
          from : (j : ℕ) → j < suc i → RemovesAt R ((v, l) ∷ cs) j done
          from zero k = p
          from (suc j) k = before j (omega arith)

  decides_start_inside : (cs : List Pair) (p : ℕ) → Decides (start_inside_test r size top cs p) (StartInside R cs p)
  unfolding start_inside_test
  decides_start_inside cs p = decides_and (decides_ltb p (length cs)) (decides_same (to, from) (decides_below at (length cs)))
    where
      at : (j : ℕ) → Decides
          (not (eqb (loop_at cs p).0 (loop_at cs j).0) && around_test r size top (loop_at cs j).0 (loop_at cs j).1 (loop_at cs p).0)
          (InBodyOf R (loop_at cs j) (loop_at cs p).0)
      at j = decides_and (decides_not (decides_eqb (loop_at cs p).0 (loop_at cs j).0))
          (decides_same (Iff.symm (body_iff (loop_at cs p).0)) (decides_around (loop_at cs j).0 (loop_at cs j).1 (loop_at cs p).0))

      to : (j : ℕ) × (j < length cs) × InBodyOf R (loop_at cs j) (loop_at cs p).0
          → (j : ℕ) × (j < length cs) × (j ≢ p) × InBodyOf R (loop_at cs j) (loop_at cs p).0
      to (j, k, b) = (j, k, (λ e. b.0 (ap (λ (i : ℕ). (loop_at cs i).0) (sym e))), b)

      from : (j : ℕ) × (j < length cs) × (j ≢ p) × InBodyOf R (loop_at cs j) (loop_at cs p).0
          → (j : ℕ) × (j < length cs) × InBodyOf R (loop_at cs j) (loop_at cs p).0
      from (j, k, n, b) = (j, k, b)

  pub group_answer_lem : (cs : List Pair) → RemovesTogether R cs (group_answer r size top cs)
  unfolding First group_answer
  group_answer_lem cs = go (first_answer r size top cs) (first_answer_lem cs)
    where
      p : ℕ
      p = lowest (start_inside_test r size top cs) 0 (length cs)

      least : (p < length cs → Least (StartInside R cs) p) × (length cs ≤ p → (k : ℕ) → k < length cs → ¬ StartInside R cs k)
      least = stops_least (decides_start_inside cs) (lowest_stops (start_inside_test r size top cs) 0 (length cs))

      last : EachGoes R cs → (x : Bool) → Decides x (p < length cs) → RemovesTogether R cs (cond x (refused_57 p) (single done))
      last each true d = inside each (least.0 (d.0 refl))
      last each false d = let n = not_so d refl in goes each (λ k s. least.1 (omega arith) k s.0 s)

      go : (a : Answer) → First cs a → RemovesTogether R cs (on_done single a (cond (ltb p (length cs)) (refused_57 p) (single done)))
      go a (inr (n, i, h, before, q)) = told a n (refused h before q n)
        where
          told : (x : Answer) → x ≢ done → RemovesTogether R cs (single x)
              → RemovesTogether R cs (on_done single x (cond (ltb p (length cs)) (refused_57 p) (single done)))
          told done m t = absurd (m refl)
          told (refused_51 u m) k t = t
          told (refused_52 u m q) k t = t
      go a (inl (e, each)) = rw e (last each (ltb p (length cs)) (decides_ltb p (length cs)))

-- s tests the transitions, x a set of their loops
module _ {s : StepTest} {S : Steps} {size top : ℕ} (tests : (u l w : ℕ) → Decides (s u l w) (S u l w)) (formed : Formed size S) (labels : (u l w : ℕ) → S u l w → l < top) {x : ℕ → ℕ → Bool} {X : Loops} (members : (v l : ℕ) → Decides (x v l) (X v l)) (loops : (v l : ℕ) → X v l → Loop S v l) where
  decides_inside : (v l : ℕ) → Decides (inside_test s size top x v l) (Inside S X v l)
  unfolding inside_test
  decides_inside v l = decides_same
      ((λ (w, b, (m, d, (i, (h, p)))). (w, m, i, h, p)), (λ (w, m, i, h, p). (w, plus_below (loop_to formed v l) p, (m, labels w m (loops w m i).1 (loops w m i).2, (i, (h, p))))))
      (decides_below (λ w. decides_below (λ m. decides_and (members w m) (decides_and (decides_not (decides_eqb w v)) (decides_body tests formed labels v l w))) top) size)

  -- THE PLAIN SET
  pub plain_answer_lem : (v l : ℕ) → Plain S X v l (plain_answer s size top x v l)
  unfolding plain_answer
  plain_answer_lem v l = go (x v l) (inside_test s size top x v l) (members v l) (decides_inside v l)
    where
      go : (a b : Bool) → Decides a (X v l) → Decides b (Inside S X v l) → Plain S X v l (cond (not a) (refused_51 v l) (cond b (refused_52 v l 2) done))
      go false b d e = Plain.absent (not_so d refl)
      go true true d e = Plain.inner (d.0 refl) (e.0 refl)
      go true false d e = Plain.goes (d.0 refl) (not_so e refl)

-- EVERY LIST OF CALLS HAS ANSWERS
apart_too : {P : Type 0} → Dec P → (v l u m : ℕ) → Dec (P × ¬ ((u ≡ v) × (m ≡ l)))
apart_too (no h) v l u m = no (λ q. h q.0)
apart_too (yes p) v l u m = elim (ℕ_discrete u v) [
  | no h ↦ yes (p, λ q. h q.0)
  | yes e ↦ elim (ℕ_discrete m l) [ no h ↦ yes (p, λ q. h q.1) | yes f ↦ no (λ q. q.1 (e, f)) ]
]

left_formed : {size : ℕ} {R : Steps} (v l : ℕ) (a : Answer) → Formed size R → Formed size (left_steps a v l R)
left_formed v l done f = record { from_vertex = λ u m w e. f.from_vertex u m w e.0; to_vertex = λ u m w e. f.to_vertex u m w e.0 }
left_formed v l (refused_51 p q) f = f
left_formed v l (refused_52 p q r) f = f

left_listed : {top : ℕ} {R : Steps} (v l : ℕ) (a : Answer) → Listed top R → Listed top (left_steps a v l R)
left_listed v l done f = record { label_below = λ u m w e. f.label_below u m w e.0; decide = λ u m w. apart_too (f.decide u m w) v l u m }
left_listed v l (refused_51 p q) f = f
left_listed v l (refused_52 p q r) f = f

pub rule_answers : {size top : ℕ} {R : Steps} → Formed size R → Listed top R → (cs : List (ℕ × ℕ)) → (xs : List Answer) × (Q : Steps) × RemovesAll R cs xs Q
rule_answers {R = R} f g [] = ([], R, RemovesAll.none)
rule_answers {size} {top} {R} f g ((v, l) ∷ cs) =
    let a : Answer = rule_answer (listed_test f g) size top v l in
    let (xs, Q, ps) = rule_answers {R = left_steps a v l R} (left_formed v l a f) (left_listed v l a g) cs in
    (a ∷ xs, Q, RemovesAll.call (rule_answer_lem (listed_tests f g) f g.label_below v l) (λ u m w. Iff.rfl) ps)

pub left_decided : {S : Steps} {X : Loops} (v l : ℕ) (a : Answer) → DecidedLoops S X → DecidedLoops S (left_loops a v l X)
left_decided v l done k = record { loops = λ u m x. k.loops u m x.0; member = λ u m. apart_too (k.member u m) v l u m }
left_decided v l (refused_51 p q) k = k
left_decided v l (refused_52 p q r) k = k

pub all_decided : {size top : ℕ} {S : Steps} → Formed size S → Listed top S → DecidedLoops S (Loop S)
all_decided f g = record {
  loops = λ v l o. o;
  member = λ v l. decided (decides_loop (listed_tests f g) f g.label_below v l);
}

-- of one call, and of a list
pub plain_call : {size top : ℕ} {S : Steps} → Formed size S → Listed top S → {X : Loops} → DecidedLoops S X
    → (v l : ℕ) → (a : Answer) × Plain S X v l a
plain_call {size} {top} f g k v l = (
  plain_answer (listed_test f g) size top (λ w m. test_of (k.member w m)) v l,
  plain_answer_lem (listed_tests f g) f g.label_below (λ w m. decides_dec (k.member w m)) k.loops v l,
)

pub plain_answers : {size top : ℕ} {S : Steps} → Formed size S → Listed top S → {X : Loops} → DecidedLoops S X → (cs : List (ℕ × ℕ)) → (ys : List Answer) × (Y : Loops) × PlainAll S X cs ys Y
plain_answers f g {X} k [] = ([], X, PlainAll.none)
plain_answers f g {X} k ((v, l) ∷ cs) =
    let (a, p) = plain_call f g k v l in
    let (ys, Y, ps) = plain_answers f g {X = left_loops a v l X} (left_decided v l a k) cs in
    (a ∷ ys, Y, PlainAll.call p (λ u m. Iff.rfl) ps)
