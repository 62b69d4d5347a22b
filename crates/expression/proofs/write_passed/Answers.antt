-- `expression::write_passed` meets its contract. The number of transitions is the chart's, so that the bytes needed are the body's.
use mathlib.Core.Path.{◌∙◌}
use native.Mathlib.Omega.{arith}
use Rattle.expression.proofs.Table.{passed→well_formed}
use Rattle.expression.proofs.Bodies.{body_long, chart_few, short, done}
use Rattle.expression.proofs.Listings.{keys_fit, chart_many, chart_room, body_is}
use Rattle.expression.proofs.write_passed.Goals as goal

pub count_transitions-t-requires-clause-fits : goal.count_transitions-t-requires-clause-fits
count_transitions-t-requires-clause-fits c =
    let n = rw c.new.ensures at c.node_count-n.ensures in
    let t = chart_many _ _ _ _ _ n c.number_into_zeros-needed.ensures (omega (arith, n, c.new.result.formed.sized.few)) in
    omega (arith, t, chart_few _ (passed→well_formed _ c.requires))

pub overflow_mul-needed : goal.overflow_mul-needed
overflow_mul-needed c =
    let n = rw c.new.ensures at c.node_count-n.ensures in
    let t = c.count_transitions-t.ensures ∙ chart_many _ _ _ _ _ n c.number_into_zeros-needed.ensures (omega (arith, n, c.new.result.formed.sized.few)) in
    record { fits = omega (arith, t, chart_few _ (passed→well_formed _ c.requires)) }

pub overflow_add-needed : goal.overflow_add-needed
overflow_add-needed c =
    let n = rw c.new.ensures at c.node_count-n.ensures in
    let t = c.count_transitions-t.ensures ∙ chart_many _ _ _ _ _ n c.number_into_zeros-needed.ensures (omega (arith, n, c.new.result.formed.sized.few)) in
    record { fits = omega (arith, t, chart_few _ (passed→well_formed _ c.requires)) }

pub returns-then-out-needed : goal.returns-then-out-needed
returns-then-out-needed c =
    let n = rw c.new.ensures at c.node_count-n.ensures in
    let t = c.count_transitions-t.ensures ∙ chart_many _ _ _ _ _ n c.number_into_zeros-needed.ensures (omega (arith, n, c.new.result.formed.sized.few)) in
    let l = body_long c.args.nodes.now in
    short _ (passed→well_formed _ c.requires) c.args.out.now _ (omega arith) c.if-out-needed.true

pub write_body-requires : goal.write_body-requires
write_body-requires c =
    let n = rw c.new.ensures at c.node_count-n.ensures in
    let t = c.count_transitions-t.ensures ∙ chart_many _ _ _ _ _ n c.number_into_zeros-needed.ensures (omega (arith, n, c.new.result.formed.sized.few)) in
    let w = passed→well_formed _ c.requires in
    let N = c.number_into_zeros-needed.ensures in
    let l = body_long c.args.nodes.now in
    (omega (arith, n, w.sized.few), omega (arith, t, chart_few _ w), keys_fit _ _ _ N.coded, chart_room _ _ _ _ _ n N _ (omega (arith, l, t, c.if-out-needed.false)))

pub returns : goal.returns
returns c =
    let n = rw c.new.ensures at c.node_count-n.ensures in
    let t = c.count_transitions-t.ensures ∙ chart_many _ _ _ _ _ n c.number_into_zeros-needed.ensures (omega (arith, n, c.new.result.formed.sized.few)) in
    let N = c.number_into_zeros-needed.ensures in
    let l = body_long c.args.nodes.now in
    done _ (passed→well_formed _ c.requires) c.args.out.now _ (omega arith) c.if-out-needed.false _
    (body_is _ _ _ _ _ n N _ _ _ t c.write_body.ensures)
