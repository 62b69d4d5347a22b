use mathlib.Core.Bool.{true≢false}
use Rattle.reach.proofs.Knowing.{whole_of}
use Rattle.witness.proofs.Nested.{fewer_reached, alone_reached, alone_closed}
use Rattle.witness.proofs.Onward.{leads_on_alone, leads_on_free}
use native.Mathlib.Omega.{arith}
use Rattle.witness.proofs.loop_tables.LoopTables.look_around.Goals as goal

pub returns-then-x-ge128 : goal.returns-then-x-ge128
returns-then-x-ge128 c = record {
  left = c.requires.2;
  passes = λ e. leads_on_alone _ _ _ _ c.without.ensures c.lowest-x.ensures c.if-x-ge128.true;
  returns = tt;
}

pub row_or_empty-requires : goal.row_or_empty-requires
row_or_empty-requires c = whole_of _ c.args.self.now.whole

pub in_row-requires : goal.in_row-requires
in_row-requires c =
    let p = c.requires in
    let (h, n) = (c.without.ensures _).0 (c.lowest-x.ensures.holds (omega (arith, c.if-x-ge128.false))) in
    (p.0 _ h, p.1)

pub returns-then-not-all : goal.returns-then-not-all
returns-then-not-all c = record {
  left = record { low = c.requires.1; closed = c.surrounding.ensures.1 };
  passes = λ e. absurd (true≢false e);
  returns = (c.starting-back.ensures.1 c.if-not-all.true, c.surrounding.ensures.0);
}

pub returns-then-apart_but : goal.returns-then-apart_but
returns-then-apart_but c =
    let R = rw (c.starting-back.ensures.0 c.if-not-all.false) at c.surrounding.ensures.0 in
    let A = c.apart_but-2.ensures c.if-apart_but.true in
    record {
      left = record { low = c.requires.1; closed = c.surrounding.ensures.1 };
      passes = λ e. leads_on_free _ _ c.row_or_empty.ensures c.union-barred.ensures R c.surrounding.ensures.1 A;
      returns = tt;
    }

pub returns-then-below_level : goal.returns-then-below_level
returns-then-below_level c =
    let M = c.returning-some.ensures in
    let R = rw (c.starting-back.ensures.0 c.if-not-all.false) at c.surrounding.ensures.0 in
    record {
      left = record { low = c.requires.1; closed = c.surrounding.ensures.1 };
      passes = λ e. absurd (true≢false e);
      returns = (M, fewer_reached (λ w h. ((M.exactly w h.below).0 h).0) R);
    }

pub closure-requires : goal.closure-requires
closure-requires c = (whole_of _ c.args.self.now.branches.whole, c.requires.1)

pub returns : goal.returns
returns c =
    let M = c.closure.ensures in
    record {
      left = record { low = c.requires.1; closed = alone_closed M };
      passes = λ e. absurd (true≢false e);
      returns = (c.returning-some.ensures, alone_reached M);
    }
