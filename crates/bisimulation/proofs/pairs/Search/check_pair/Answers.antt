use mathlib.Core.Path.{refl}
use native.Mathlib.Nat.{le_refl}
use borrow.Author.Tests.{not-true, not-false}
use Rattle.theory.proofs.Tests.{not_so}
use Rattle.theory.specs.Relations.{ends_apart, left_unmatched, right_unmatched, fails_43, fails_44, fails_45}
use Rattle.chart.proofs.Checks.{well_formed}
use Rattle.bisimulation.proofs.PairChecks.{decides_ends, pair_passed, pair_refused}
use Rattle.bisimulation.proofs.PairLaws.{none_left, least_left, none_alone, least_alone}
use Rattle.bisimulation.proofs.pairs.Search.check_pair.Goals as goal

pub returns-then-u-v : goal.returns-then-u-v
returns-then-u-v c = λ e relation T r. pair_refused r (ends_apart _ _, fails_43 (not_so (decides_ends c.args.u c.args.v) (not-true _ c.if-u-v.true)), refl)

pub returns-then-left-ne0 : goal.returns-then-left-ne0
returns-then-left-ne0 c = λ e relation T r.
    let k = c.args.self.now.tables.now.chart.now in
    let E = (decides_ends c.args.u c.args.v).0 (not-false _ c.if-u-v.false) in
    let L = least_left k.bytes (well_formed _ k.passed) k.begun T _ c.requires.1 c.matched.result c.bit_and_not-left.result c.matched.ensures c.bit_and_not-left.ensures _ _ c.lowest_bit.ensures c.place-i.ensures in
    pair_refused r (left_unmatched _ _ _, fails_44 E L, refl)

pub returns-in-Some : goal.returns-in-Some
returns-in-Some c = λ e relation T r.
    let k = c.args.self.now.tables.now.chart.now in
    let E = (decides_ends c.args.u c.args.v).0 (not-false _ c.if-u-v.false) in
    let N = none_left k.bytes (well_formed _ k.passed) k.begun T _ c.requires.1 c.matched.result c.bit_and_not-left.result c.matched.ensures c.bit_and_not-left.ensures c.if-left-ne0.false in
    let (h, F) = c.in-Some.ensures.some in
    let L = least_alone k.bytes (well_formed _ k.passed) k.begun T _ c.requires.1 F h in
    pair_refused r (right_unmatched _ _ _, fails_45 E N L, refl)

pub returns : goal.returns
returns c = λ e relation T r.
    let k = c.args.self.now.tables.now.chart.now in
    let E = (decides_ends c.args.u c.args.v).0 (not-false _ c.if-u-v.false) in
    let N = none_left k.bytes (well_formed _ k.passed) k.begun T _ c.requires.1 c.matched.result c.bit_and_not-left.result c.matched.ensures c.bit_and_not-left.ensures c.if-left-ne0.false in
    let A = none_alone k.bytes (well_formed _ k.passed) k.begun T _ c.requires.1 (c.in_default.ensures.none refl) (le_refl _) in
    pair_passed (λ z. record { c43 = E; c44 = N; c45 = A })
