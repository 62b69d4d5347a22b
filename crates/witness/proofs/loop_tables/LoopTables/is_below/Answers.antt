use mathlib.Core.Bool.{false≢true}
use Rattle.theory.proofs.Tests.{not_so}
use Rattle.witness.proofs.loop_tables.LoopTables.is_below.Goals as goal

pub returns-then-not-contains : goal.returns-then-not-contains
returns-then-not-contains c = λ e.
    let all = rw c.row.ensures at c.with-all.ensures in
    let both = rw c.row-then-not-contains.ensures at c.intersection.ensures in
    record {
      endless = λ g. not_so c.contains.ensures c.if-not-contains.true ((all 0).1 g);
      lower = λ u g h. c.is_empty.ensures.0 e u ((both u).1 ((all u).1 g, h));
    }

pub returns-else-not-contains : goal.returns-else-not-contains
returns-else-not-contains c = λ e. absurd (false≢true (rw c.if-not-contains.false at e))
