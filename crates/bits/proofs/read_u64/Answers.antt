use Rattle.std.proofs.Common.{arith, ◌≡◌, ◌+◌, ◌*◌, ◌%◌, ◌^◌, subst}
use Rattle.bits.specs.Packed.{Packed}
use Rattle.bits.proofs.Packed.{packed_twice}
use Rattle.bits.proofs.read_u64.Goals as goal

pub returns : goal.returns
returns c =
    let low = c.read_u32-low.ensures.1 in
    let high = c.read_u32-high.ensures.1 in
    let e : c.read_u32-low.result + 2 ^ 32 * c.read_u32-high.result ≡ c.from.result + c.from-2.result * 4294967296 % 18446744073709551616 =
    omega (arith, c.from.ensures, c.from-2.ensures, high.below) in
    subst (Packed c.args.s.now c.args.at 8) e (packed_twice {n = 4} (omega (arith, low.below, high.below)) low high)
