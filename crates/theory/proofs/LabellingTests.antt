-- The test of a labelling gives the answer of the checks 31 to 35.
use mathlib.Core.Path.{◌≡◌, refl, sym, ◌∙◌, ap, subst}
use mathlib.Core.Logic.{◌⊎◌, inl, inr, ⊎_elim}
use mathlib.Core.Bool.{Bool, true, false, cond, not, false≢true}
use Prim.Native.Nat.{ℕ, ◌≤◌, ◌<◌}
use native.Mathlib.Omega.{arith}
use lib.Dec.{ltb}
use borrow.Author.Tests.{ltb-true, ltb-false}
use Rattle.theory.specs.Paths.{Edges, Plus}
use Rattle.theory.specs.Charts.{Steps, Formed, Listed, Any, Loop}
use Rattle.theory.specs.LoopCharts.{Round, entry, other, InLoop}
use Rattle.theory.specs.Witnesses.{Layered, Connected}
use Rattle.theory.specs.Least.{Least, FirstPair}
use Rattle.theory.specs.Checks.{LoopPasses, Outcome, passes, unreached, branch_cycle, no_return, end_inside, not_lower, Unreached, OnBranchCycle, NotLower, LoopFails, fails_33, fails_34, fails_35, EarlierPass, Checked, all_pass, fails_31, fails_32, fails_loop}
use Rattle.theory.specs.Orders.{AllLoops}
use Rattle.theory.specs.Tests.{Decides, lowest, first_row}
use Rattle.theory.specs.LabellingTests.{StepTest, round_test, any_test, loop_test, loop_list, body_test, unreached_test, cycle_test, not_lower_test, loop_outcome, failed, failing_test, loops_outcome, outcome}
use Rattle.theory.proofs.Paths.{star_apart, plus_below}
use Rattle.theory.proofs.Tests.{decided, test_of, decides_dec, not_so, decides_same, decides_and, decides_not, decides_eqb, decides_ltb, decides_leb, decides_cond, decides_below, lowest_stops, stops_least, first_pair}
use Rattle.theory.proofs.Pairs.{pairs→, pairs←, pairs_distinct}
use Rattle.theory.proofs.Reachability.{decides_star, decides_plus}
use Rattle.theory.proofs.Rounds.{at_start, off_start}
use Rattle.theory.proofs.Checks.{loop_to}
use Rattle.theory.proofs.Outcomes.{fails_not_passes}

pub decides_round : {v : ℕ} {entries : ℕ → Bool} {others : ℕ → ℕ → Bool} {Entry : ℕ → Type 0} {Other : Edges} → ((w : ℕ) → Decides (entries w) (Entry w)) → ((u w : ℕ) → Decides (others u w) (Other u w)) → (u w : ℕ) → Decides (round_test v entries others u w) (Round v Entry Other u w)
decides_round {v} {Entry = Entry} {Other = Other} d e u w = decides_cond (decides_eqb u v)
    (λ h. decides_same ((λ q. subst (λ (x : ℕ). Round v Entry Other x w) (sym h) (entry q)), at_start h) (d w))
    (λ h. decides_same (other h, off_start h) (e u w))

-- s tests the transitions of S, whose vertices are below size and whose labels are below top
module _ {s : StepTest} {S : Steps} {size top : ℕ} (tests : (u l w : ℕ) → Decides (s u l w) (S u l w)) (formed : Formed size S) (labels : (u l w : ℕ) → S u l w → l < top) where
  pub decides_any : (u w : ℕ) → Decides (any_test s size top u w) (Any S u w)
  unfolding any_test
  decides_any u w = decides_same ((λ (l, h, e). (l, e)), (λ (l, e). (l, labels u l w e, e))) (decides_below (λ l. tests u l w) top)

  pub decides_loop : (v l : ℕ) → Decides (loop_test s size top v l) (Loop S v l)
  unfolding loop_test
  decides_loop v l = decides_same ((λ (h, (w, b, e)). (h, w, e)), (λ (h, w, e). (h, (w, formed.to_vertex v l w e, e)))) (decides_and (decides_ltb 0 l) (decides_below (λ w. tests v l w) size))

  -- the list of the loops has each of them once
  pub loops_listed : AllLoops S (loop_list s size top)
  unfolding loop_list
  loops_listed = record {
    every = λ v l o. pairs← (loop_test s size top) size top v l ((formed.from_vertex v l o.1 o.2).1, labels v l o.1 o.2) ((decides_loop v l).1 o);
    only = λ v l m. (decides_loop v l).0 (pairs→ (loop_test s size top) size top v l m).2;
    once = pairs_distinct (loop_test s size top) size top;
  }

  pub decides_body : (v l w : ℕ) → Decides (body_test s size top v l w) (Plus (InLoop S v l) v w)
  unfolding body_test
  decides_body v l w = decides_plus (decides_round (tests v l) (λ u x. tests u 0 x)) size (loop_to formed v l) v w

  decides_unreached : (start : ℕ) → start < size → (w : ℕ) → Decides (unreached_test s size top start w) (Unreached size S start w)
  unfolding unreached_test
  decides_unreached start h w = decides_same ((λ (a, (b, c)). (a, b, c)), (λ (a, b, c). (a, (b, c))))
      (decides_and (decides_ltb 0 w) (decides_and (decides_ltb w size) (decides_not (decides_star decides_any size (λ u x (l, e). formed.to_vertex u l x e) start w h (λ u. decides_eqb u start)))))

  decides_cycle : (w : ℕ) → Decides (cycle_test s size top w) (OnBranchCycle S w)
  unfolding cycle_test
  decides_cycle w = decides_plus (λ u x. tests u 0 x) size (λ u x. formed.to_vertex u 0 x) w w

  decides_not_lower : (v l r : ℕ) → Decides (not_lower_test s size top v l r) (NotLower S v l r)
  unfolding not_lower_test
  decides_not_lower v l r = decides_same
      ((λ (g, (p, (m, b, (o, le)))). (g, p, (m, o, le))), (λ (g, p, (m, o, le)). (g, (p, (m, labels r m o.1 o.2, (o, le))))))
      (decides_and (decides_not (decides_eqb r v)) (decides_and (decides_body v l r) (decides_below (λ m. decides_and (decides_loop r m) (decides_leb l m)) top)))

  -- ONE LOOP
  abbrev LoopAnswer : ℕ → ℕ → Outcome → Type 0
  LoopAnswer v l o = ((o ≡ passes) × LoopPasses S v l) ⊎ LoopFails S v l o

  layered_of : (v l : ℕ) → ((r : ℕ) → r < size → ¬ NotLower S v l r) → Layered S v l
  layered_of v l none w g p m o = elim (decided (decides_ltb m l)) [
    | yes h ↦ h
    | no h ↦ absurd (none w (plus_below (loop_to formed v l) (star_apart p g)) (g, star_apart p g, (m, o, omega arith)))
  ]

  loop_answer : (v l : ℕ) → LoopAnswer v l (loop_outcome s size top v l)
  unfolding loop_outcome
  loop_answer v l = go (body_test s size top v l v) (body_test s size top v l 0) (ltb r size) (decides_body v l v) (decides_body v l 0) refl
    where
      r : ℕ
      r = lowest (not_lower_test s size top v l) 0 size

      least : (r < size → Least (NotLower S v l) r) × (size ≤ r → (k : ℕ) → k < size → ¬ NotLower S v l k)
      least = stops_least (decides_not_lower v l) (lowest_stops (not_lower_test s size top v l) 0 size)

      go : (a b c : Bool) → Decides a (Plus (InLoop S v l) v v) → Decides b (Plus (InLoop S v l) v 0) → ltb r size ≡ c → LoopAnswer v l (cond (not a) (no_return v l) (cond b (end_inside v l) (cond c (not_lower v l r) passes)))
      go false b c d e h = inr (fails_33 (not_so d refl))
      go true true c d e h = inr (fails_34 (d.0 refl) (e.0 refl))
      go true false true d e h = inr (fails_35 (d.0 refl) (not_so e refl) (least.0 (ltb-true r size h)))
      go true false false d e h = inl (refl, record { c33 = d.0 refl; c34 = not_so e refl; c35 = layered_of v l (least.1 (ltb-false r size h)) })

  fails_failed : {v l : ℕ} {o : Outcome} → LoopFails S v l o → failed o ≡ true
  fails_failed (fails_33 h) = refl
  fails_failed (fails_34 h g) = refl
  fails_failed (fails_35 h g r) = refl

  abbrev Failing : ℕ → ℕ → Type 0
  Failing v l = Loop S v l × LoopFails S v l (loop_outcome s size top v l)

  decides_failing : (v l : ℕ) → Decides (failing_test s size top v l) (Failing v l)
  unfolding failing_test
  decides_failing v l = decides_and (decides_loop v l) (go (loop_outcome s size top v l) (loop_answer v l))
    where
      go : (o : Outcome) → LoopAnswer v l o → Decides (failed o) (LoopFails S v l o)
      go o (inl (e, c)) = ((λ h. absurd (false≢true (sym (ap failed e) ∙ h))), (λ f. absurd (fails_not_passes f c)))
      go o (inr f) = ((λ h. f), (λ g. fails_failed f))

  not_failing : (v l : ℕ) → ¬ Failing v l → Loop S v l → LoopPasses S v l
  not_failing v l h o = ⊎_elim (λ (e, c). c) (λ f. absurd (h (o, f))) (loop_answer v l)

  -- ALL LOOPS
  abbrev LoopsAnswer : Outcome → Type 0
  LoopsAnswer o = ((v l : ℕ) × Loop S v l × EarlierPass S v l × LoopFails S v l o) ⊎ ((o ≡ passes) × ((v l : ℕ) → Loop S v l → LoopPasses S v l))

  loops_answer : LoopsAnswer (loops_outcome s size top)
  unfolding loops_outcome
  loops_answer = go (ltb v size) refl
    where
      v : ℕ
      v = first_row (failing_test s size top) size top

      l : ℕ
      l = lowest (failing_test s size top v) 0 top

      found : (v < size → FirstPair Failing v l) × (size ≤ v → (w m : ℕ) → ¬ Failing w m)
      found = first_pair decides_failing size top (λ w m f. ((formed.from_vertex w m f.0.1 f.0.2).1, labels w m f.0.1 f.0.2))

      first : FirstPair Failing v l → LoopsAnswer (loop_outcome s size top v l)
      first f = inl (v, l, f.holds.0, λ w m e. not_failing w m (f.earlier w m e), f.holds.1)

      go : (c : Bool) → ltb v size ≡ c → LoopsAnswer (cond c (loop_outcome s size top v l) passes)
      go true h = first (found.0 (ltb-true v size h))
      go false h = inr (refl, λ w m. not_failing w m (found.1 (ltb-false v size h) w m))

  -- THE TEST gives the answer of the checks
  pub outcome_checked : (start : ℕ) → start < size → Checked size S start (outcome s size top start)
  unfolding outcome
  outcome_checked start b = go (ltb p size) (ltb c size) refl refl loops_answer
    where
      p : ℕ
      p = lowest (unreached_test s size top start) 0 size

      c : ℕ
      c = lowest (cycle_test s size top) 0 size

      least_p : (p < size → Least (Unreached size S start) p) × (size ≤ p → (k : ℕ) → k < size → ¬ Unreached size S start k)
      least_p = stops_least (decides_unreached start b) (lowest_stops (unreached_test s size top start) 0 size)

      least_c : (c < size → Least (OnBranchCycle S) c) × (size ≤ c → (k : ℕ) → k < size → ¬ OnBranchCycle S k)
      least_c = stops_least decides_cycle (lowest_stops (cycle_test s size top) 0 size)

      connected : size ≤ p → Connected size S start
      connected h w i j = elim (decided (decides_star decides_any size (λ u x (l, e). formed.to_vertex u l x e) start w b (λ u. decides_eqb u start))) [ yes q ↦ q | no q ↦ absurd (least_p.1 h w j (i, j, q)) ]

      acyclic : size ≤ c → (w : ℕ) → ¬ OnBranchCycle S w
      acyclic h w q = least_c.1 h w (plus_below (λ x y. formed.to_vertex x 0 y) q) q

      go : (x y : Bool) → ltb p size ≡ x → ltb c size ≡ y → LoopsAnswer (loops_outcome s size top) → Checked size S start (cond x (unreached p) (cond y (branch_cycle c) (loops_outcome s size top)))
      go true y h g a = fails_31 (least_p.0 (ltb-true p size h))
      go false true h g a = fails_32 (connected (ltb-false p size h)) (least_c.0 (ltb-true c size g))
      go false false h g (inl (v, l, o, e, f)) = fails_loop (connected (ltb-false p size h)) (acyclic (ltb-false c size g)) o e f
      go false false h g (inr (e, a)) = rw e (all_pass (connected (ltb-false p size h)) (record { c32 = acyclic (ltb-false c size g); loops = a }))

-- THERE IS AN ANSWER where the transitions are listed
module _ {size top : ℕ} {S : Steps} (formed : Formed size S) (listed : Listed top S) where
  pub listed_test : StepTest
  listed_test u l w = test_of (listed.decide u l w)

  pub listed_tests : (u l w : ℕ) → Decides (listed_test u l w) (S u l w)
  unfolding listed_test
  listed_tests u l w = decides_dec (listed.decide u l w)

  pub decide_loop : (v l : ℕ) → Dec (Loop S v l)
  decide_loop v l = decided (decides_loop listed_tests formed listed.label_below v l)

  pub some_outcome : (start : ℕ) → start < size → (o : Outcome) × Checked size S start o
  some_outcome start h = (_, outcome_checked listed_tests formed listed.label_below start h)
