use mathlib.Core.Path.{◌≡◌, sym, ◌∙◌}
use Prim.Native.Nat.{◌+◌, ◌*◌}
use native.Mathlib.Omega.{arith}
use borrow.Author.Tests.{ltb-true}
use Rattle.chart.specs.Checks.{◌and◌}
use Rattle.chart.proofs.Checks.{left, right}
use Rattle.chart.proofs.Codes.{rises, turn_rises}
use Rattle.chart.proofs.block_ok.Goals as goal

pub loop-i-init : goal.loop-i-init
loop-i-init c =
    let s : c.args.p + 4 * 0 ≡ c.args.p = omega arith in
    λ _ _. rw s c.requires.0

pub overflow_add-p : goal.overflow_add-p
overflow_add-p c =
    let s = c.requires.0.sound in
    omega (arith, s.header.count_high, s.place, s.within)

pub read_u32-code-requires : goal.read_u32-code-requires
read_u32-code-requires c = omega (arith, c.requires.2)

pub loop-i-preserved : goal.loop-i-preserved
unfolding ◌and◌
loop-i-preserved c =
    let l = c.loop-i in
    let p = c.args.p in
    let s : p + 4 * (l.i + 1) ≡ p + 4 * l.i + 4 = omega arith in
    λ h b.
    let e = sym c.code_rises-good.ensures ∙ right l.good c.code_rises-good.result h in
    let t = l.invariant (left l.good c.code_rises-good.result h) (omega (arith, b, rises _ _ _ _ e)) in
    rw s
    (turn_rises (λ j. omega (arith, c.type_inv.body j)) t
    (omega (arith, c.requires.2)) c.requires.1 c.read_u32-code.ensures.0
    c.key_of-key.ensures e b)

pub overflow_mul-result : goal.overflow_mul-result
overflow_mul-result c =
    let q = c.requires in
    omega (arith, q.0.sound.header.vertices_high, q.1)

pub returns : goal.returns
unfolding ◌and◌
returns c e =
    let l = c.loop-i in
    let s : l.i ≡ 32 = omega (arith, l.auto.i-end, c.loop-i-test.false) in
    let below = ltb-true l.before (65536 * c.args.v) (right l.good _ e) in
    (rw s at (l.invariant (left l.good _ e) below)).sound
