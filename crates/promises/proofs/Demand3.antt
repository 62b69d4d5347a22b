-- Demand 3, proved.
use mathlib.Core.Path.{◌≡◌, refl, sym, ap, ◌∙◌}
use mathlib.Core.Logic.Dec
use mathlib.Core.Logic.Iff
use mathlib.Core.Logic.{◌≢◌, inl, ⊎_elim, ◌↔◌, by_cases}
use mathlib.Core.Bool.{Bool, false}
use mathlib.Core.List.{List, [], ◌∷◌, map, map-map, map_congr_left}
use Prim.Native.Nat.{ℕ, zero, suc, ◌-◌, ◌<◌}
use native.Mathlib.Decide.{ℕ_discrete}
use native.Mathlib.Omega.{arith}
use lib.ListN.{length, get_or, length-replicate, get_or-replicate, length-map}
use borrow.Author.Tests.{eq-eqb, ne_eqb}
use Rattle.theory.specs.Charts.{Steps, Loop}
use Rattle.theory.specs.Standing.{Loops, SameLoops, DecidedLoops}
use Rattle.theory.specs.Orders.{Pair, Order}
use Rattle.theory.specs.Removals.{Answer, done, refused_51, refused_52, left_loops}
use Rattle.theory.specs.Systems.{Bisimulation}
use Rattle.theory.specs.Nodes.{Means}
use Rattle.theory.specs.Rules.{rules}
use Rattle.theory.specs.Followers.{Answers}
use Rattle.theory.specs.Events as events
use Rattle.theory.specs.Runs.{run, run_leaves, run_fresh, kept_fresh, rule_machine}
use Rattle.theory.proofs.Checks.{passed_iff_witness}
use Rattle.theory.proofs.Removals.{plain_done}
use Rattle.theory.proofs.RemovalTests.{all_decided, left_decided, plain_call, plain_answers}
use Rattle.theory.proofs.Orders.{order_plain, order_exists, no_endless}
use Rattle.theory.proofs.Rules.{chart_rules}
use Rattle.theory.proofs.Followers.{fresh_agree, one_answers}
use Rattle.theory.proofs.Runs.{chart_answers, rules_answers}
use Rattle.std.specs.Prelude.{Result, Ok}
use Rattle.report.specs.declared.Refusal.{Refusal}
use Rattle.report.specs.Numbers.{accepted_with}
use Rattle.report.specs.declared.Response.{Response}
use Rattle.report.specs.Numbers.{flag, done_numbers, followed_numbers}
use Rattle.bits.specs.Bits.{Bytes}
use Rattle.chart.specs.Bodies as chart
use Rattle.chart.specs.Bodies.{start_of, count_of}
use Rattle.chart.specs.Steps.{StepsOf}
use Rattle.chart.specs.Standing.{StandsFor}
use Rattle.chart.proofs.Checks.{well_formed}
use Rattle.chart.proofs.Relations.{steps_formed}
use Rattle.chart.proofs.Standing.{stands_agree, stands_same, all_stand, one_standing}
use Rattle.witness.proofs.Labellings.{labelled_iff_witness}
use Rattle.expression.specs.Table as nodes
use Rattle.expression.specs.Body.{chart_transitions}
use Rattle.expression.proofs.Table.{passed→well_formed, tree}
use Rattle.expression.proofs.Chart.{body_start, body_transitions, body_passes}
use Rattle.bisimulation.specs.Answers.{Related}
use Rattle.bisimulation.proofs.Relations.{relation_iff_bisimulation}
use Rattle.elimination.specs.Removals.{removal_of, removed_as}
use Rattle.elimination.proofs.Lists.{Passing, formed, listed, call_answers, call_stands, calls_agree}
use Rattle.follower.specs.declared.Follower.{Follower}
use Rattle.follower.specs.States.{state_size, state_in, no_state}
use Rattle.follower.specs.Calls.{followed_as, called_on, lent_on}
use Rattle.follower.specs.Lists.{call_by_value, call_in_place, ByRule}
use Rattle.follower.proofs.Calls.{fresh_called}
use Rattle.follower.proofs.Lists.{by_value_follows, in_place_follows, lent_follows, fresh_held}
use Rattle.verdict.specs.Verdicts.{nodes_in, chart_in, labels_in, relation_in, verdict_of}
use Rattle.verdict.proofs.Verdicts.{accepted_iff}
use Rattle.promises.specs.Check.{steps_in, expression_in}
use Rattle.chart.specs.Systems.{system_of, machine_of}
use Rattle.promises.specs.Demand3.{all_standing, Remaining, EachRemoval, ended, call, plain_numbers, AgainstPlainSet, OrderExists, branch_byte, RunsThrough, FollowerGives, rule_numbers, root_in, OneList, Demand3}
use Rattle.promises.proofs.Accepted.{part_bytes}

-- BRANCH BYTES, which stand for no loop
branch_at : (labels : List ℕ) (i : ℕ) → i < length labels → get_or (map branch_byte labels) i 0 ≡ branch_byte (get_or labels i 0)
branch_at [] i h = absurd (omega arith)
branch_at (x ∷ xs) zero h = refl
branch_at (x ∷ xs) (suc i) h = branch_at xs i (omega arith)

branches_stand : (b labels : List ℕ) {Y : Loops} → length labels ≡ count_of b → ((v l : ℕ) → ¬ Y v l)
    → StandsFor b labels (map branch_byte labels) Y
branches_stand b labels {Y} each none = record {
  long = length-map labels branch_byte ∙ each;
  marks = λ i h. by_cases (ℕ_discrete (get_or labels i 0) 0) (λ z. omega (arith, branch i h z)) (λ n. omega (arith, entry i h n));
  stands = λ i h. (
    (λ e. by_cases (ℕ_discrete (get_or labels i 0) 0) inl (λ n. absurd (omega (arith, entry i h n)))),
    (λ c. ⊎_elim (branch i h) (λ y. absurd (none _ _ y)) c),
  );
}
  where
    branch : (i : ℕ) → i < count_of b → get_or labels i 0 ≡ 0 → get_or (map branch_byte labels) i 0 ≡ 1
    branch i h z = branch_at labels i (omega (arith, each)) ∙ rw (eq-eqb (get_or labels i 0) 0 z)

    entry : (i : ℕ) → i < count_of b → get_or labels i 0 ≢ 0 → get_or (map branch_byte labels) i 0 ≡ 0
    entry i h n = branch_at labels i (omega (arith, each)) ∙ rw (ne_eqb (get_or labels i 0) 0 n)

-- THE ANSWERS of the calls have the numbers that are written out for the theory's
plain_numbers_lem : (a : Answer) → done_numbers (removed_as a) ≡ plain_numbers a
plain_numbers_lem done = refl
plain_numbers_lem (refused_51 v l) = refl
plain_numbers_lem (refused_52 v l r) = refl

rule_numbers_lem : (x : events.Answer) → followed_numbers (followed_as x) ≡ rule_numbers x
rule_numbers_lem (events.answer events.taken end offered) = refl
rule_numbers_lem (events.answer events.not_possible end offered) = refl
rule_numbers_lem events.spoilt = refl
rule_numbers_lem events.refused_53 = refl

all_numbers : {X Y K : Type 0} (f : Y → K) (g : X → Y) (h : X → K) → ((x : X) → f (g x) ≡ h x) → {ys : List Y} (xs : List X)
    → ys ≡ map g xs → map f ys ≡ map h xs
all_numbers f g h same xs e = ap (map f) e ∙ map-map f g xs ∙ map_congr_left {l = xs} (λ x m. same x)

-- A REMOVAL is done where the plain set's answer is, and leaves the same loops
module _ {x : Result Unit Refusal} where
  done_same : (a : Answer) → x ≡ removed_as a → (x ≡ Ok tt) ↔ (a ≡ done)
  done_same done e = ((λ z. refl), (λ z. e))
  done_same (refused_51 p q) e =
      ((λ z. let o : ◌≡◌ {A = ℕ} 0 1 = cc in absurd (omega arith)), (λ z. let o : ◌≡◌ {A = ℕ} 0 1 = cc in absurd (omega arith)))
  done_same (refused_52 p q r) e =
      ((λ z. let o : ◌≡◌ {A = ℕ} 0 1 = cc in absurd (omega arith)), (λ z. let o : ◌≡◌ {A = ℕ} 0 1 = cc in absurd (omega arith)))

  remaining_same : (a : Answer) → x ≡ removed_as a → (v l : ℕ) (X : Loops) → SameLoops (Remaining x v l X) (left_loops a v l X)
  remaining_same done e v l X u m = ((λ (y, d). (y, d e)), (λ (y, d). (y, λ z. d)))
  remaining_same (refused_51 p q) e v l X u m = ((λ (y, d). y), (λ y. (y, λ z. let o : ◌≡◌ {A = ℕ} 0 1 = cc in absurd (omega arith))))
  remaining_same (refused_52 p q r) e v l X u m = ((λ (y, d). y), (λ y. (y, λ z. let o : ◌≡◌ {A = ℕ} 0 1 = cc in absurd (omega arith))))

decided_same : {S : Steps} {X Y : Loops} → SameLoops Y X → DecidedLoops S X → DecidedLoops S Y
decided_same same k = record {
  loops = λ v l y. k.loops v l ((same v l).0 y);
  member = λ v l. Dec.of_iff (Iff.symm (same v l)) (k.member v l);
}

-- BESIDE A CHART AND LABELS THAT PASS
module _ {b labels : List ℕ} (c : Passing b labels) where
  all_loops : DecidedLoops (StepsOf b labels) (Loop (StepsOf b labels))
  all_loops = all_decided (formed c) (listed c)

  at_first : StandsFor b labels (all_standing b) (Loop (StepsOf b labels))
  at_first = all_stand (length-replicate (count_of b) 1) (λ i h. get_or-replicate (count_of b) i 1 0 h)

  each_from : {X : Loops} {standing : List ℕ} → DecidedLoops (StepsOf b labels) X → StandsFor b labels standing X
      → (calls : List Pair) → EachRemoval b labels standing X calls
  each_from k h [] = ended h
  each_from {X = X} {standing = standing} k h ((v, l) ∷ calls) =
      let (a, p) = plain_call (formed c) (listed c) k v l in
      let e = call_answers c k.loops h v l p in
      let same = remaining_same a e v l _ in
      call h (Iff.trans (done_same a e) (plain_done p))
      (each_from {X = Remaining (removal_of b labels v l standing) v l X} (decided_same same (left_decided v l a k))
      (stands_same same (call_stands c k.loops h v l a p)) calls)

  against : (calls : List Pair) → AgainstPlainSet b labels calls
  against calls = record {
    same = λ ys Y p.
        let (e, s) = calls_agree c (λ v l o. o) at_first p in
        record { answers = all_numbers done_numbers removed_as plain_numbers plain_numbers_lem ys e; stands = s };
    answered = plain_answers (formed c) (listed c) all_loops calls;
  }

  runs_through : (xs : List Pair) → Order (StepsOf b labels) xs → RunsThrough b labels xs
  runs_through xs order =
      let (Y, p, none) = order_plain xs order in
      let (e, s) = calls_agree c (λ v l o. o) at_first p in
      record {
        no_refusal = e ∙ map-map removed_as _ xs;
        branches = one_standing s (branches_stand b labels c.each none);
        no_endless = no_endless (formed c) c.passed (stands_agree s) none;
      }

-- THE FOLLOWER OVER A BODY THAT PASSES, where the rule has but one list of answers over its chart
pub gives : {b : List ℕ} {cs : List events.Call} {xs : List events.Answer} {spoilt : Bool} → chart.WellFormed b
    → ((zs : List events.Answer) (mark : Bool) → Answers events.event_rule (system_of b) false cs zs mark → (zs ≡ xs) × (mark ≡ spoilt))
    → FollowerGives b cs (map rule_numbers xs) spoilt
gives {b} {cs} {xs} {spoilt} W one = record {
  by_value = told by_value;
  by_value_mark = marked by_value;
  in_place = λ f. told (in_place f);
  in_place_mark = λ f. marked (in_place f);
  lent = λ s h. told (lent s h);
  lent_mark = λ s h. marked (lent s h);
}
  where
    told : {ys : List (Result Response Refusal)} {g : Follower} → ByRule b cs ys g → map followed_numbers ys ≡ map rule_numbers xs
    told R =
        all_numbers followed_numbers followed_as rule_numbers rule_numbers_lem R.answers R.written
        ∙ ap (map rule_numbers) (one R.answers R.spoilt R.rule).0

    marked : {ys : List (Result Response Refusal)} {g : Follower} → ByRule b cs ys g → g.mark ≡ flag spoilt
    marked R = R.marked ∙ ap flag (one R.answers R.spoilt R.rule).1

    by_value : ByRule b cs (run (call_by_value b) cs (called_on b no_state events.restart).follower)
        (run_leaves (call_by_value b) cs (called_on b no_state events.restart).follower)
    by_value = by_value_follows W (called_on b no_state events.restart).follower (fresh_called W no_state) cs

    in_place : (f : Follower) → ByRule b cs (run (call_in_place b) cs (called_on b f events.restart).follower)
        (run_leaves (call_in_place b) cs (called_on b f events.restart).follower)
    in_place f = in_place_follows W (called_on b f events.restart).follower (fresh_called W f) cs

    lent : (s : List ℕ) → length s ≡ state_size → ByRule b cs (run (lent_on b) cs (lent_on b s events.restart).1)
        (state_in (run_leaves (lent_on b) cs (lent_on b s events.restart).1))
    lent s h = let (held, F) = fresh_held W s h in lent_follows W (lent_on b s events.restart).1 held F cs

-- OF ANY ACCEPTED FILE
module _ (f : List ℕ) (bytes : Bytes f) {v t l : ℕ} (accepted : verdict_of f ≡ Ok (accepted_with v t l)) where
  pub passing : Passing (chart_in f) (labels_in f)
  passing =
      let (r, n, c, p, q, v', t') = (accepted_iff f v t l).0 accepted in
      let B = part_bytes f 2 bytes in
      let W = well_formed (chart_in f) c in
      let (each, conn, wit) = (labelled_iff_witness (chart_in f) (labels_in f) c B).0 (l, p) in
      let passed = (passed_iff_witness (steps_formed (chart_in f) (labels_in f) W) (start_of (chart_in f)) conn).1 wit in
      record { bytes = B; body = W; each = each; passed = passed }

  -- a removal is done exactly when its loop still stands and none stands that starts inside its body, its own start aside;
  -- after the list exactly the branches and the entries of loops not taken out stand
  pub each_removal : (calls : List Pair)
      → EachRemoval (chart_in f) (labels_in f) (all_standing (chart_in f)) (Loop (steps_in f)) calls
  each_removal = each_from passing (all_loops passing) (at_first passing)

  -- each answer, places included, is the plain set's
  pub against_plain_set : (calls : List Pair) → AgainstPlainSet (chart_in f) (labels_in f) calls
  against_plain_set = against passing

  -- an order of all loops exists
  pub an_order_exists : OrderExists (chart_in f) (labels_in f)
  an_order_exists = order_exists (formed passing) (listed passing) passing.passed

  -- every such order runs with no refusal, leaves exactly the branches, and no endless path from any vertex
  pub orders_run_through : (xs : List Pair) → Order (steps_in f) xs → RunsThrough (chart_in f) (labels_in f) xs
  orders_run_through = runs_through passing

  -- THE TWO CHARTS AND THE RULES, two by two bisimilar
  nodes_pass : nodes.check_of (nodes_in f) ≡ Ok tt
  nodes_pass = let (r, n, c, p, q, v', t') = (accepted_iff f v t l).0 accepted in n

  charts_match : Bisimulation (system_of (expression_in f)) (system_of (chart_in f)) (Related (relation_in f))
  charts_match =
      let (r, n, c, p, q, v', t') = (accepted_iff f v t l).0 accepted in
      ((relation_iff_bisimulation (expression_in f) (chart_in f) (relation_in f)).0 q).2

  rules_match : Bisimulation (system_of (expression_in f)) (rules (root_in f)) (Means (nodes.node (nodes_in f)) (nodes.count (nodes_in f)))
  unfolding chart_transitions
  rules_match =
      let w = passed→well_formed (nodes_in f) nodes_pass in
      let some = w.sized.some in
      rw (body_start (nodes_in f), body_transitions (nodes_in f))
      (chart_rules (nodes.node (nodes_in f)) (nodes.count (nodes_in f)) (tree (nodes_in f) w) (nodes.count (nodes_in f) - 1) (omega arith))

  -- for every list of events and restarts they answer one list
  pub followers_answer : (calls : List events.Call) → OneList (chart_in f) (expression_in f) (root_in f) calls
  followers_answer cs = record {
    answers = xs;
    spoilt = spoilt;
    rules_give = given;
    no_others = λ zs mark a. one_answers events.event_rule (rules (root_in f)) a given;
    panel_gives = gives passing.body
        (λ zs mark a.
        let (e, k) = fresh_agree charts_match events.event_rule written a in
        let (g, m) = fresh_agree rules_match events.event_rule written given in
        (sym e ∙ g, sym k ∙ m));
    expression_gives = gives (well_formed (expression_in f) (body_passes (nodes_in f) (part_bytes f 0 bytes) nodes_pass))
        (λ zs mark a. fresh_agree rules_match events.event_rule a given);
    rules_run = refl;
    rules_mark = refl;
  }
    where
      xs : List events.Answer
      xs = run_fresh events.event_rule (rule_machine (root_in f)) false cs

      spoilt : Bool
      spoilt = kept_fresh events.event_rule (rule_machine (root_in f)) false cs

      given : Answers events.event_rule (rules (root_in f)) false cs xs spoilt
      given = rules_answers (root_in f) events.event_rule false cs

      written : Answers events.event_rule (system_of (expression_in f)) false cs
          (run_fresh events.event_rule (machine_of (expression_in f)) false cs)
          (kept_fresh events.event_rule (machine_of (expression_in f)) false cs)
      written = chart_answers _ _ events.event_rule false cs

  -- DEMAND 3
  pub demand_3 : Demand3 f
  demand_3 = record {
    removals = each_removal;
    plain_set = against_plain_set;
    order = an_order_exists;
    orders_run = orders_run_through;
    followers = followers_answer;
  }
