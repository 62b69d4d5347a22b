use Rattle.reach.proofs.Knowing.{whole_of}
use Rattle.witness.proofs.Nested.{beside_reached, beside_closed, inside_closed, nested_reached, nested_closed}
use Rattle.witness.proofs.loop_tables.LoopTables.widened.Goals as goal

pub row_or_empty-requires : goal.row_or_empty-requires
row_or_empty-requires c = whole_of _ c.args.self.now.branches.whole

pub returns-then-is_empty : goal.returns-then-is_empty
returns-then-is_empty c =
    let C = c.requires.1.closed in
    let N = c.is_empty.ensures.0 c.if-is_empty.true in
    let O = c.without.ensures in
    let A = c.with.ensures in (
      beside_reached C c.row_or_empty.ensures c.union.ensures c.difference-new.ensures O N A,
      beside_closed C c.row_or_empty.ensures c.union.ensures c.difference-new.ensures O N A,
    )

pub nothing-requires : goal.nothing-requires
nothing-requires c = whole_of _ c.args.self.now.branches.whole

pub closure_from-requires : goal.closure_from-requires
closure_from-requires c =
    let p = c.requires in
    (p.0, rw c.nothing.ensures.0 (inside_closed _ p.1.closed c.without-others.ensures c.with-2.ensures))

pub returns : goal.returns
returns c =
    let C = c.requires.1.closed in
    let O = c.without-others.ensures in
    let W = c.with-2.ensures in
    let F = rw c.nothing.ensures.0 at c.closure_from.ensures in
    (nested_reached _ C O W F, nested_closed _ C O W F)
