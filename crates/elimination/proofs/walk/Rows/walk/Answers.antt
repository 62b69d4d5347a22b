use mathlib.Core.Path.{refl, ◌∙◌}
use native.Mathlib.Omega.{arith}
use Rattle.theory.proofs.Tests.{decides_not}
use Rattle.bits.proofs.Members.{size_few}
use Rattle.elimination.proofs.Entries.{kept_low}
use Rattle.elimination.proofs.Walking.{walking_none, walking_on, walking_back, walking_more, walking_ended, walking_long}
use Rattle.elimination.proofs.Walking.{shorter_less}
use Rattle.elimination.proofs.walk.Rows.walk.Goals as goal

pub loop-depth-init : goal.loop-depth-init
loop-depth-init c = (refl, refl, walking_none (kept_low c.args.self.now.chart.now.passed) refl c.requires)

pub loop-depth-preserved-then-w-lt128 : goal.loop-depth-preserved-then-w-lt128
loop-depth-preserved-then-w-lt128 c =
    let (e, f, I) = c.loop-depth.invariant in
    let (p, q, W) = c.read_row.ensures in (
      p ∙ e,
      q ∙ f,
      walking_on (kept_low c.args.self.now.chart.now.passed) I (rw (e, f) at c.onward.ensures) c.lowest-w.ensures
          c.loop-depth-test.true c.if-w-lt128.true W (rw (p ∙ e, q ∙ f) at c.row.ensures) c.union-body.ensures,
    )

pub returns-then-depth-eq0 : goal.returns-then-depth-eq0
returns-then-depth-eq0 c =
    let (e, f, I) = c.loop-depth.invariant in (
      e,
      f,
      walking_ended (kept_low c.args.self.now.chart.now.passed) I (rw (e, f) at c.onward.ensures) c.lowest-w.ensures
          c.if-w-lt128.false c.requires c.if-depth-eq0.true,
    )

pub loop-depth-smaller : goal.loop-depth-smaller
loop-depth-smaller c =
    let (e, f, I) = c.loop-depth.invariant in
    shorter_less (walking_more (kept_low c.args.self.now.chart.now.passed) I (rw (e, f) at c.onward.ensures) c.lowest-w.ensures
    c.if-w-lt128.false (omega (arith, c.if-depth-eq0.false)) (rw (e, f) at c.row-else-w-lt128.ensures) c.intersection-leads.ensures
    (decides_not c.is_empty.ensures) c.with_if-back.ensures c.with-past.ensures)
    (size_few c.with-past.result) (omega (arith, c.if-depth-eq0.false)) I.deep

pub loop-depth-preserved : goal.loop-depth-preserved
loop-depth-preserved c =
    let (e, f, I) = c.loop-depth.invariant in (
      e,
      f,
      walking_back (kept_low c.args.self.now.chart.now.passed) I (rw (e, f) at c.onward.ensures) c.lowest-w.ensures
          c.if-w-lt128.false (omega (arith, c.if-depth-eq0.false)) (rw (e, f) at c.row-else-w-lt128.ensures)
          c.intersection-leads.ensures (decides_not c.is_empty.ensures) c.with_if-back.ensures c.with-past.ensures,
    )

pub returns : goal.returns
returns c =
    let (e, f, I) = c.loop-depth.invariant in
    (e, f, walking_long (kept_low c.args.self.now.chart.now.passed) I c.loop-depth-test.false)
