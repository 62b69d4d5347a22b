use mathlib.Core.Path.{sym, ◌∙◌}
use native.Mathlib.Omega.{arith}
use Rattle.std.proofs.lemmas.Result.{err_from_is_err_and}
use Rattle.elimination.proofs.Answers.{start_low, start_not_end, judged_stays, judged_goes, body_found}
use Rattle.elimination.proofs.LoopLists.{loops_long, loop_here}
use Rattle.elimination.proofs.Rulings.{carried_fresh, carried_at, carried_more, stops_there, gone_none, gone_more}
use Rattle.elimination.proofs.Rulings.{gone_refused, gone_all}
use Rattle.elimination.proofs.opening.Standing.ruled_each.Goals as goal

pub loop-i-init : goal.loop-i-init
loop-i-init c = (c.requires.1, c.requires.2, gone_none c.empty-bodies.ensures, carried_fresh c.new-stops.ensures)

pub entries-requires : goal.entries-requires
entries-requires c = rw c.loop-i.invariant.0 at c.range_by.ensures

pub returns-in_err-targets : goal.returns-in_err-targets
returns-in_err-targets c =
    let x = err_from_is_err_and c.from_residual.result c.from_residual.ensures.1 in
    let (a, b) = c.loop_at-v.ensures in
    let (h, e) = loop_here c.args.loops.now c.loop-i.i c.loop-i-test.true a b in
    rw (x.1, x.2) (gone_refused h e c.loop-i.invariant.2 c.in_err-targets.ensures)

pub moved_to-requires : goal.moved_to-requires
moved_to-requires c = start_low c.args.self.now.fits c.in_ok-targets.ensures

pub judge-requires : goal.judge-requires
judge-requires c =
    let (p, q, G, C) = c.loop-i.invariant in
    let S = c.moved_to.ensures in
    let D = carried_at C S in (
      rw (p, q) D.settled,
      λ h. start_not_end c.args.self.now.fits c.in_ok-targets.ensures (sym (stops_there S) ∙ D.not_end h),
    )

pub returns-in_err-found : goal.returns-in_err-found
returns-in_err-found c =
    let x = err_from_is_err_and c.from_residual-in_err-found.result c.from_residual-in_err-found.ensures.1 in
    let (p, q, G, C) = c.loop-i.invariant in
    let (a, b) = c.loop_at-v.ensures in
    let (h, e) = loop_here c.args.loops.now c.loop-i.i c.loop-i-test.true a b in
    rw (x.1, x.2) (gone_refused h e G (judged_stays c.args.self.now.fits c.in_ok-targets.ensures (stops_there c.moved_to.ensures)
    (rw (p, q) at c.in_err-found.ensures.2)))

pub without-requires : goal.without-requires
without-requires c = start_low c.args.self.now.fits c.in_ok-targets.ensures

pub loop-i-preserved : goal.loop-i-preserved
loop-i-preserved c =
    let (p, q, G, C) = c.loop-i.invariant in
    let (f, g, J) = c.in_ok-found.ensures in
    let (a, b) = c.loop_at-v.ensures in
    let (h, e) = loop_here c.args.loops.now c.loop-i.i c.loop-i-test.true a b in
    let F = c.args.self.now.fits in
    let E = c.in_ok-targets.ensures in
    let t = stops_there c.moved_to.ensures in
    let D = carried_at C c.moved_to.ensures in
    let K = rw (p, q) at J in (
      f ∙ p,
      g ∙ q,
      gone_more e G (judged_goes F E t K) (body_found F E t K) (λ w x m. D.inside w x (λ z. m (z ∙ t)))
          c.without.ensures c.union-bodies.ensures,
      carried_more t D K c.without.ensures c.union-bodies.ensures,
    )

pub returns : goal.returns
returns c = gone_all (omega (arith, c.loop-i-test.false, loops_long c.args.loops.now)) c.loop-i.invariant.2
