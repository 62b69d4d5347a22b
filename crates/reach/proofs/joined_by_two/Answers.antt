use mathlib.Core.Path.{sym, ◌∙◌}
use Rattle.reach.proofs.Searches.{take_one, take_another, lowest_in, lowest_last}
use Rattle.reach.proofs.Searches.{join_more, join_less, join_last, join_all}
use Rattle.reach.proofs.joined_by_two.Goals as goal

pub returns-then-low-marked : goal.returns-then-low-marked
returns-then-low-marked c =
    let W = c.with_highest-marked.ensures in
    let F = c.lowest-low.ensures in
    let O = lowest_last F W.0 c.if-low-marked.true in
    join_last c.loop-left.invariant (λ x h. O x h ∙ sym c.if-low-marked.true) (lowest_in W.0.has F)
    c.row-first.ensures c.union.ensures

pub loop-left-smaller : goal.loop-left-smaller
loop-left-smaller c =
    let W = c.with_highest-marked.ensures in
    let O = take_one c.empty.ensures W.0.has W.1 c.row.ensures in
    let low = lowest_in W.0.has c.lowest-low.ensures in
    let T = take_another O low c.with.ensures c.row-first.ensures c.union-more.ensures in
    join_less c.loop-left.invariant T c.union-in-loop-left.ensures c.difference-left.ensures

pub loop-left-preserved : goal.loop-left-preserved
loop-left-preserved c =
    let W = c.with_highest-marked.ensures in
    let O = take_one c.empty.ensures W.0.has W.1 c.row.ensures in
    let low = lowest_in W.0.has c.lowest-low.ensures in
    let T = take_another O low c.with.ensures c.row-first.ensures c.union-more.ensures in
    join_more c.loop-left.invariant T c.union-in-loop-left.ensures c.difference-left.ensures c.union-all.ensures

pub returns : goal.returns
returns c = join_all c.loop-left.invariant (c.is_empty.ensures.0 c.loop-left-test.false)
