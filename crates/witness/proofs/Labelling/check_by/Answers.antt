use mathlib.Core.Path.{refl, sym, ◌∙◌, subst}
use native.Mathlib.Nat.{le_refl}
use native.Mathlib.Omega.{arith}
use Rattle.std.proofs.lemmas.Result.{err_from_is_err_and}
use Rattle.chart.proofs.Checks.{well_formed}
use Rattle.witness.specs.Answers.{LoopsSaid}
use Rattle.witness.proofs.Answers.{answer_31, answer_32, answer_passed, answer_refused}
use Rattle.witness.proofs.Collecting.{top_below}
use Rattle.witness.proofs.Given.{levels_of, none_higher}
use Rattle.witness.proofs.Reaching.{cycle_first, acyclic}
use Rattle.witness.proofs.Labelling.check_by.Goals as goal

pub unreached-requires : goal.unreached-requires
unreached-requires c =
    let (H, R) = c.requires in
    R.collected.of_next.whole

pub returns-in-Some : goal.returns-in-Some
returns-in-Some c =
    let (H, R) = c.requires in
    let s = c.args.self.now in
    let W = well_formed _ s.chart.now.passed in
    sym (answer_31 _ _ W s.bytes s.long (rw c.in-Some.is at (c.unreached.ensures _ R.collected.of_next)))

pub cycle-requires : goal.cycle-requires
cycle-requires c =
    let (H, R) = c.requires in
    let n = c.vertices-n.ensures.0 in
    (R.collected.of_branches.whole, c.vertices-n.ensures.2, omega (arith, n, R.for_next))

pub returns-in-Some-cycle : goal.returns-in-Some-cycle
returns-in-Some-cycle c =
    let (H, R) = c.requires in
    let s = c.args.self.now in
    let W = well_formed _ s.chart.now.passed in
    let n = c.vertices-n.ensures.0 in
    let U = rw c.in_default.is at (c.unreached.ensures _ R.collected.of_next) in
    let C = c.cycle.ensures in
    let on_cycle = cycle_first W R.collected.of_branches (rw (c.in-Some-cycle.is, n) at C.first) in
    sym (answer_32 _ _ W s.bytes s.long U on_cycle (rw (c.in-Some-cycle.is, n) at C.below))

pub count_loops-loops-requires : goal.count_loops-loops-requires
count_loops-loops-requires c =
    let (H, R) = c.requires in
    let s = c.args.self.now in
    let E = R.collected.of_entered in
    (E.whole, top_below s.bytes H, none_higher E H)

pub lowest_levels-requires : goal.lowest_levels-requires
lowest_levels-requires c =
    let (H, R) = c.requires in
    let s = c.args.self.now in
    (R.for_levels, top_below s.bytes H, none_higher R.collected.of_entered H, refl)

pub join_later-requires : goal.join_later-requires
join_later-requires c =
    let (H, R) = c.requires in
    let s = c.args.self.now in
    (R.for_levels, top_below s.bytes H, none_higher R.collected.of_entered H)

pub new-requires : goal.new-requires
new-requires c =
    let (H, R) = c.requires in
    let n = c.vertices-n.ensures.0 in
    let C = c.cycle.ensures in
    (R.collected.of_branches.whole, omega (arith, n, R.for_next, C.long), C.known (rw c.in_default-cycle.is refl))

pub invariant_of-tables : goal.invariant_of-tables
invariant_of-tables c =
    let (H, R) = c.requires in
    let s = c.args.self.now in
    let W = well_formed _ s.chart.now.passed in
    let n = c.vertices-n.ensures.0 in
    record {
      all = c.new.ensures.3 ∙ n;
      from_first = c.new.ensures.2;
      whole = ∣ (levels_of W s.bytes R.collected.of_entered c.join_later.ensures).whole ∣₁;
      levels_fit = λ k h. omega (arith, H.above k, R.for_levels, c.join_later.ensures.long);
    }

pub check-requires : goal.check-requires
check-requires c =
    let (H, R) = c.requires in
    let s = c.args.self.now in
    let W = well_formed _ s.chart.now.passed in
    let n = c.vertices-n.ensures.0 in
    let C = c.cycle.ensures in
    let on_cycle = cycle_first W R.collected.of_branches (rw (c.in_default-cycle.is, n) at C.first) in
    rw (c.new.ensures.0, c.new.ensures.1)
    (record {
      of_branches = R.collected.of_branches;
      branches_room = R.for_branches;
      after_room = omega (arith, R.for_next, C.long);
      of_after = rw n at (C.known (rw c.in_default-cycle.is refl));
      acyclic = acyclic W on_cycle (le_refl _);
      of_entries = R.collected.of_entries;
      of_low = c.lowest_levels.ensures _ _ s.chart.now.passed s.bytes R.collected.of_entered;
      of_levels = levels_of W s.bytes R.collected.of_entered c.join_later.ensures;
      levels_fit = λ k h. omega (arith, H.above k, R.for_levels, c.join_later.ensures.long);
    })

pub returns-in_err-check : goal.returns-in_err-check
returns-in_err-check c =
    let (H, R) = c.requires in
    let s = c.args.self.now in
    let W = well_formed _ s.chart.now.passed in
    let n = c.vertices-n.ensures.0 in
    let U = rw c.in_default.is at (c.unreached.ensures _ R.collected.of_next) in
    let C = c.cycle.ensures in
    let on_cycle = cycle_first W R.collected.of_branches (rw (c.in_default-cycle.is, n) at C.first) in
    let p = err_from_is_err_and c.from_residual.result c.from_residual.ensures.1 in
    rw (p.1, p.2)
    (answer_refused _ _ W s.bytes s.long U on_cycle (le_refl _) (subst (LoopsSaid _) c.in_err-check.was c.check.ensures))

pub returns : goal.returns
returns c =
    let (H, R) = c.requires in
    let s = c.args.self.now in
    let W = well_formed _ s.chart.now.passed in
    let n = c.vertices-n.ensures.0 in
    let U = rw c.in_default.is at (c.unreached.ensures _ R.collected.of_next) in
    let C = c.cycle.ensures in
    let on_cycle = cycle_first W R.collected.of_branches (rw (c.in_default-cycle.is, n) at C.first) in
    answer_passed _ _ W s.bytes s.long U on_cycle (le_refl _) (subst (LoopsSaid _) c.in_ok-check.was c.check.ensures)
    (c.count_loops-loops.ensures _ _ s.chart.now.passed s.bytes R.collected.of_entered)
