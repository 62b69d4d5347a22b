use Prim.Native.Nat.{◌+◌, ◌-◌, ◌*◌, ◌/◌}
use mathlib.Core.Path.{◌≡◌, refl, sym, ◌∙◌}
use native.Mathlib.Omega.{arith}
use Rattle.chart.proofs.Codes.{turn_step, turn_stop, turn_end}
use Rattle.chart.proofs.check_from.Goals as goal

pub count-n-requires : goal.count-n-requires
count-n-requires c = c.requires.0.header.long

pub key_before-before-requires : goal.key_before-before-requires
key_before-before-requires c = c.requires.0

pub overflow_sub-i : goal.overflow_sub-i
overflow_sub-i c = omega (arith, c.requires.0.place)

pub loop-i-init : goal.loop-i-init
loop-i-init c =
    let e : 4 * ((c.args.at - 4) / 4) + 4 ≡ c.args.at = omega (arith, c.requires.0.place) in
    rw e c.key_before-before.ensures

pub read_u32-code-requires : goal.read_u32-code-requires
read_u32-code-requires c = omega (arith, c.loop-i-test.true, c.count-n.ensures.0, c.requires.0.header.whole)

pub code_ok-requires : goal.code_ok-requires
code_ok-requires c =
    omega (arith, c.requires.0.header.vertices_high, c.requires.1)

pub returns-then-not-code_ok : goal.returns-then-not-code_ok
returns-then-not-code_ok c =
    turn_stop (λ j. omega (arith, c.type_inv.body j)) c.loop-i.invariant
    (omega (arith, c.loop-i-test.true, c.count-n.ensures.0, c.requires.0.header.whole)) c.requires.1
    c.read_u32-code.ensures.0 c.key_of-key.ensures refl
    (sym c.code_ok.ensures ∙ c.if-not-code_ok.true)

pub loop-i-preserved : goal.loop-i-preserved
loop-i-preserved c =
    let e : 4 * (c.loop-i.i + 1) + 4 ≡ 4 * c.loop-i.i + 4 + 4 = omega arith in
    rw e
    (turn_step (λ j. omega (arith, c.type_inv.body j)) c.loop-i.invariant
    (omega (arith, c.loop-i-test.true, c.count-n.ensures.0, c.requires.0.header.whole)) c.requires.1
    c.read_u32-code.ensures.0 c.key_of-key.ensures
    (sym c.code_ok.ensures ∙ c.if-not-code_ok.false))

pub returns : goal.returns
returns c =
    let S = c.loop-i.invariant.sound in
    turn_end S (omega (arith, c.loop-i-test.false, c.count-n.ensures.0, S.header.whole))
