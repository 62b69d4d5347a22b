use Rattle.std.proofs.Common.{arith, ◌+◌, ◌≡◌}
use Rattle.bits.specs.Packed.{four_at}
use Rattle.bits.proofs.Packed.{packed_four}
use Rattle.bits.proofs.read_u32.Goals as goal

pub returns : goal.returns
returns c =
    let e : c.from_le_bytes.result ≡ four_at c.args.s.now c.args.at = omega (arith, c.from_le_bytes.ensures) in
    (e, packed_four c.args.s.now c.args.at _ (λ j h. omega (arith, c.type_inv.s (c.args.at + j))) e)
