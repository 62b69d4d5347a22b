use native.Mathlib.Omega.{arith}
use mathlib.Core.Path.{◌≡◌, sym, ◌∙◌}
use mathlib.Core.Bool.{false≢true, true≢false}
use Prim.Native.Nat.{ℕ}
use Rattle.bisimulation.specs.Pairs.{Alone}
use Prim.Native.Nat.{◌+◌}
use lib.ListN.{get_or}
use Rattle.chart.proofs.Order.{begin_order, begin_high}
use Rattle.bisimulation.proofs.TableLaws.{between_more}
use Rattle.bisimulation.proofs.matching.Tables.alone.Goals as goal

pub loop-i-init : goal.loop-i-init
loop-i-init c = λ j l h. absurd (omega arith)

pub returns-then-not-meets : goal.returns-then-not-meets
returns-then-not-meets c = record {
  some = (
    c.loop-i-test.true,
    record {
      from = c.loop-i.auto.i;
      within = omega (arith, c.loop-i-test.true);
      holds = λ h k on M. false≢true (sym c.if-not-meets.true ∙ c.meets.ensures.1 (k, on, (c.matching.ensures k).1 M));
      before = c.loop-i.invariant;
    },
  );
  none = λ n. absurd (true≢false n);
}

pub matching-requires : goal.matching-requires
matching-requires c = omega (arith, begin_high c.args.self.now.chart.now.begun _ c.requires, c.loop-i-test.true)

pub loop-i-preserved : goal.loop-i-preserved
loop-i-preserved c =
    let s = c.args.self.now in
    let (k, on, m) = c.meets.ensures.0 c.if-not-meets.false in
    between_more (λ (j : ℕ). ¬ Alone s.at.now.into s.acting.now s.chart.now.body.now c.args.steps j) _ c.loop-i.invariant (λ f. f k on ((c.matching.ensures k).0 m))

pub returns : goal.returns
returns c =
    let k = c.args.self.now.chart.now in
    let o = begin_order k.begun _ c.requires in
    let e : c.loop-i.i ≡ get_or k.begins.now (c.args.v + 1) 0 = omega (arith, o, c.loop-i.auto.i-end, c.loop-i-test.false) in
    record { some = tt; none = λ n. record { from = o; within = omega arith; holds = λ h. absurd (omega arith); before = rw e at c.loop-i.invariant } }
