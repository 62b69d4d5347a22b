use Rattle.theory.proofs.Tests.{not_so}
use Rattle.witness.proofs.Firsts.{first_as}
use Rattle.witness.proofs.Loops.{loop_33, loop_34, loop_35, loop_passes}
use Rattle.witness.proofs.loop_tables.LoopTables.loop_check.Goals as goal

pub returns-then-is_empty : goal.returns-then-is_empty
returns-then-is_empty c = λ b labels g. loop_33 c.requires.1 g (c.is_empty.ensures.0 c.if-is_empty.true)

pub returns-then-contains : goal.returns-then-contains
returns-then-contains c = λ b labels g.
    let some = not_so c.is_empty.ensures c.if-is_empty.false in
    loop_34 c.requires.1 g some (c.contains.ensures.0 c.if-contains.true)

pub returns-then-r-lt128 : goal.returns-then-r-lt128
returns-then-r-lt128 c = λ b labels g.
    let some = not_so c.is_empty.ensures c.if-is_empty.false in
    let endless = not_so c.contains.ensures c.if-contains.false in
    loop_35 c.requires.1 g some endless (first_as c.not_lower.ensures.exactly c.lowest-r.ensures) c.if-r-lt128.true

pub returns : goal.returns
returns c = λ b labels g.
    let some = not_so c.is_empty.ensures c.if-is_empty.false in
    let endless = not_so c.contains.ensures c.if-contains.false in
    loop_passes c.requires.1 g some endless (first_as c.not_lower.ensures.exactly c.lowest-r.ensures) c.if-r-lt128.false
