use mathlib.Core.Path.{sym, subst}
use mathlib.Core.Logic.{⊎_elim}
use Prim.Native.Nat.{◌+◌, ◌*◌, ◌≤◌}
use lib.ListN.{length}
use native.Mathlib.Omega.{arith}
use Rattle.bits.specs.Sets.{Has}
use Rattle.bits.proofs.Given.{walk}
use Rattle.bits.proofs.Visits.{visit}
use Rattle.reach.proofs.Settling.{settles_then, still_apart}
use Rattle.reach.proofs.settle_round.Goals as goal

pub settle_one-past-requires : goal.settle_one-past-requires
settle_one-past-requires c =
    let i = c.loop-w.invariant in
    let p = c.requires in
    let T = visit (walk c.into_iter-w-iterator.ensures.into_iter_gives c.members-w-items.ensures c.loop-w.yielded_by) c.in-Some.ensures.steps in (
      p.0,
      T.has.below,
      omega (arith, p.1 _ (T.within _ T.has), i.0.long),
      (λ x h. let room : 2 * x + 2 ≤ length c.args.after.now = ⊎_elim (p.2 x) (p.1 x) (i.0.within x h) in omega (arith, room, i.0.long)),
      i.0.settled,
      i.1 _ T.has,
    )

pub loop-w-preserved : goal.loop-w-preserved
loop-w-preserved c =
    let i = c.loop-w.invariant in
    let T = visit (walk c.into_iter-w-iterator.ensures.into_iter_gives c.members-w-items.ensures c.loop-w.yielded_by) c.in-Some.ensures.steps in
    let S = c.settle_one-past.ensures in
    (settles_then (λ x e. subst (Has _) (sym e) (T.within _ T.has)) i.0 S, still_apart T S i.1)
