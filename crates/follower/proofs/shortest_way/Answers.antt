use mathlib.Core.Path.{sym, ◌∙◌}
use native.Mathlib.Omega.{arith}
use Rattle.report.proofs.Exits.{handed_on}
use Rattle.bits.specs.Bits.{Bytes}
use Rattle.chart.proofs.Checks.{well_formed}
use Rattle.follower.specs.States.{state_in}
use Rattle.follower.specs.WayAnswers.{StatePasses}
use Rattle.follower.proofs.Calls.{not_spoilt}
use Rattle.follower.proofs.Finds.{read_held, fits_passes, ready_stage, ready_fits}
use Rattle.follower.proofs.WayCalls.{both_sym, way_refused, way_unready, way_no_state, spoilt_way, found_way}
use Rattle.follower.proofs.shortest_way.Goals as goal

pub returns-in_err-check : goal.returns-in_err-check
returns-in_err-check c =
    let w = both_sym (way_refused _ _ c.args.out.now (sym c.in_err-check.ensures)) in
    (handed_on _ c.from_residual.ensures.1 ∙ w.0, w.1)

pub returns-then-state-ne-STATE_SIZE : goal.returns-then-state-ne-STATE_SIZE
returns-then-state-ne-STATE_SIZE c =
    let W = well_formed _ (sym c.in_ok-check.ensures) in
    both_sym (way_no_state _ _ _ W (λ P. c.if-state-ne-STATE_SIZE.true P.long))

pub ready-requires : goal.ready-requires
ready-requires c =
    sym c.in_ok-check.ensures

pub returns-in_err-ready : goal.returns-in_err-ready
returns-in_err-ready c =
    let S = read_held c.args.state.now c.read_set-set.ensures in
    let w = both_sym (way_unready _ _ c.args.out.now (sym c.in_ok-check.ensures) c.if-state-ne-STATE_SIZE.false
    (sym (ready_stage c.args.chart.now (state_in c.args.state.now) S c.ready.ensures) ∙ c.in_err-ready.was)) in
    (handed_on _ c.from_residual-in_err-ready.ensures.1 ∙ w.0, w.1)

pub returns-then-mark-eq1 : goal.returns-then-mark-eq1
returns-then-mark-eq1 c =
    let B : Bytes c.args.chart.now = λ i. omega (arith, c.type_inv.chart i) in
    let D : Bytes c.args.state.now = λ i. omega (arith, c.type_inv.state i) in
    let S = read_held c.args.state.now c.read_set-set.ensures in
    let P : StatePasses c.args.chart.now c.args.state.now = record {
      chart = well_formed _ (sym c.in_ok-check.ensures);
      long = c.if-state-ne-STATE_SIZE.false;
      fits = (fits_passes c.args.chart.now (state_in c.args.state.now) S).1
          (ready_fits c.args.chart.now (state_in c.args.state.now) S c.ready.ensures c.in_ok-ready.was);
    } in
    both_sym (spoilt_way B D P c.if-mark-eq1.true)

pub returns : goal.returns
returns c =
    let B : Bytes c.args.chart.now = λ i. omega (arith, c.type_inv.chart i) in
    let D : Bytes c.args.state.now = λ i. omega (arith, c.type_inv.state i) in
    let S = read_held c.args.state.now c.read_set-set.ensures in
    let P : StatePasses c.args.chart.now c.args.state.now = record {
      chart = well_formed _ (sym c.in_ok-check.ensures);
      long = c.if-state-ne-STATE_SIZE.false;
      fits = (fits_passes c.args.chart.now (state_in c.args.state.now) S).1
          (ready_fits c.args.chart.now (state_in c.args.state.now) S c.ready.ensures c.in_ok-ready.was);
    } in
    both_sym (found_way B D P (not_spoilt P.fits.marked c.if-mark-eq1.false) S (rw c.new.ensures at c.way_from.ensures))
