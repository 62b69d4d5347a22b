use native.Mathlib.Omega.{arith}
use Rattle.bits.proofs.Members.{zero_off, below_law}
use Rattle.bits.proofs.sets.Set.below.Goals as goal

pub returns-then-b-lt64 : goal.returns-then-b-lt64
returns-then-b-lt64 c =
    below_law (record { lo = c.bits_below.result; hi = 0 }) c.args.b
    (λ j l. c.bits_below.ensures j)
    (λ j l. ((λ on. absurd (zero_off j on)), (λ h. absurd (omega (arith, h, c.if-b-lt64.true)))))

pub returns : goal.returns
returns c =
    let high = c.bits_below-3.ensures in
    below_law (record { lo = c.bits_below-2.result; hi = c.bits_below-3.result }) c.args.b
    (λ j l. ((λ on. omega (arith, l, c.if-b-lt64.false)), (λ h. (c.bits_below-2.ensures j).1 l)))
    (λ j l. ((λ on. omega (arith, (high j).0 on)), (λ h. (high j).1 (omega (arith, h)))))
