use mathlib.Core.Path.{subst, sym}
use mathlib.Core.Logic.{⊎_elim}
use mathlib.Core.List.Memᴰ
use mathlib.Core.List.{Memᴰ}
use lib.ListN.{get_or}
use Rattle.bits.proofs.Given.{walk, one_more, all_given}
use Rattle.bits.proofs.Listed.{turn, member_listed}
use Rattle.bisimulation.specs.Small.{PairPassesBy}
use Rattle.bisimulation.proofs.RowLaws.{has_related}
use Rattle.bisimulation.proofs.steps.Steps.row_passes.Goals as goal

pub loop-v-init : goal.loop-v-init
loop-v-init c = λ v m. absurd (Memᴰ.not-nil m)

pub pair_passes-requires : goal.pair_passes-requires
pair_passes-requires c = (c.args.self.now.stepped.known _, (turn _ _ _ c.in-Some.ensures.steps).has.below)

pub loop-v-preserved : goal.loop-v-preserved
loop-v-preserved c =
    let s = c.args.self.now in
    let k = c.args.chart.now in
    let p = c.pair_passes.ensures c.if-not-pair_passes.false in
    λ v m. ⊎_elim (c.loop-v.invariant v)
    (λ e. subst (PairPassesBy s.keys.now s.relation.bytes.now k.body.now k.begins.now (get_or s.words.now c.args.u 0) c.args.u) (sym e) p)
    (one_more m)

pub returns : goal.returns
returns c =
    let W = walk c.into_iter-v-iterator.ensures.into_iter_gives c.members-v-items.ensures c.loop-v.yielded_by in
    λ h v r. c.loop-v.invariant v (subst (Memᴰ v) (all_given W c.in-None.ensures.steps.0) (member_listed _ v ((has_related _ _ c.row-row.ensures v).1 r)))
