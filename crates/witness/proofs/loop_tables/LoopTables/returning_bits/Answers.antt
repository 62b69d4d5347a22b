use native.Mathlib.Omega.{arith}
use Rattle.bits.proofs.Given.{scan, scan_on, all_places}
use Rattle.theory.proofs.Tests.{not_so}
use Rattle.witness.proofs.Sifting.{sift_none, sift_with, sift_past, sift_all}
use Rattle.witness.proofs.loop_tables.LoopTables.returning_bits.Goals as goal

pub loop-k-init : goal.loop-k-init
loop-k-init c = sift_none

pub overflow_add-from : goal.overflow_add-from
overflow_add-from c =
    let S = scan c.into_iter-k-iterator.ensures.into_iter_gives c.places-k-items.ensures c.loop-k.yielded_by in
    omega (arith, (scan_on S c.in-Some.ensures.steps).0, c.requires.2)

pub comes_back-requires : goal.comes_back-requires
comes_back-requires c =
    let S = scan c.into_iter-k-iterator.ensures.into_iter_gives c.places-k-items.ensures c.loop-k.yielded_by in
    (c.requires.0 _ (scan_on S c.in-Some.ensures.steps).1, c.requires.1)

pub with_bit-found-requires : goal.with_bit-found-requires
with_bit-found-requires c =
    let S = scan c.into_iter-k-iterator.ensures.into_iter_gives c.places-k-items.ensures c.loop-k.yielded_by in
    (scan_on S c.in-Some.ensures.steps).0

pub loop-k-preserved-then-comes_back : goal.loop-k-preserved-then-comes_back
loop-k-preserved-then-comes_back c =
    sift_with c.loop-k.invariant (c.comes_back.ensures.0 c.if-comes_back.true) c.with_bit-found.ensures

pub loop-k-preserved : goal.loop-k-preserved
loop-k-preserved c = sift_past c.loop-k.invariant (not_so c.comes_back.ensures c.if-comes_back.false)

pub returns : goal.returns
returns c =
    let S = scan c.into_iter-k-iterator.ensures.into_iter_gives c.places-k-items.ensures c.loop-k.yielded_by in
    sift_all (omega arith) (all_places S c.in-None.ensures.steps.0) c.loop-k.invariant
