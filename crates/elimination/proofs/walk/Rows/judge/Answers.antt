use Rattle.theory.proofs.Tests.{not_so}
use Rattle.elimination.specs.Loops.{second}
use Rattle.elimination.specs.Walks.{passed, refused, found_first, found_third}
use Rattle.elimination.proofs.Loops.{broken_found, unbroken_found}
use Rattle.elimination.proofs.Walking.{meet_none, meet_some, none_found, walked_of}
use Rattle.elimination.proofs.walk.Rows.judge.Goals as goal

pub returns-in_default : goal.returns-in_default
returns-in_default c =
    let (e, f, F) = c.walk.ensures in
    (e, f, refused (second (none_found F c.in_default.not-Some)))

pub returns-then-is_empty : goal.returns-then-is_empty
returns-then-is_empty c =
    let (e, f, F) = c.in-Some.ensures in
    let m = meet_none c.intersection.ensures (c.is_empty.ensures.0 c.if-is_empty.true) in
    (e, f, refused (broken_found F (found_first m)))

pub returns-then-contains : goal.returns-then-contains
returns-then-contains c =
    let (e, f, F) = c.in-Some.ensures in
    let m = meet_some c.intersection.ensures (not_so c.is_empty.ensures c.if-is_empty.false) in
    (e, f, refused (broken_found F (found_third m (c.contains.ensures.0 c.if-contains.true))))

pub returns : goal.returns
returns c =
    let (e, f, F) = c.in-Some.ensures in
    let m = meet_some c.intersection.ensures (not_so c.is_empty.ensures c.if-is_empty.false) in
    (e, f, passed (unbroken_found c.requires.1 F m (not_so c.contains.ensures c.if-contains.false)) (walked_of F))
