use mathlib.Core.Path.{sym, ◌∙◌}
use Rattle.follower.proofs.Calls.{called_unready, called_ruled}
use Rattle.follower.proofs.Finds.{read_same, ready_stage, ready_fits}
use Rattle.follower.proofs.event_on.Goals as goal

pub event_from-requires : goal.event_from-requires
event_from-requires c =
    let S = read_same c.args.follower c.read_set-set.ensures in
    (c.requires.0, S, ready_fits c.args.chart.now c.args.follower S c.ready.ensures c.in-Ok.is)

pub returns-in-Err : goal.returns-in-Err
returns-in-Err c =
    let S = read_same c.args.follower c.read_set-set.ensures in
    sym (called_unready _ _ _ c.requires.0 (sym (ready_stage c.args.chart.now c.args.follower S c.ready.ensures) ∙ c.in-Err.is))

pub returns-in-Ok : goal.returns-in-Ok
returns-in-Ok c =
    let S = read_same c.args.follower c.read_set-set.ensures in
    c.event_from.ensures
    ∙ sym (called_ruled _ _ _ c.requires.0 (sym (ready_stage c.args.chart.now c.args.follower S c.ready.ensures) ∙ c.in-Ok.is))
