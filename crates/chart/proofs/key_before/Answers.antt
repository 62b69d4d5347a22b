use native.Mathlib.Omega.{arith}
use Rattle.chart.proofs.Codes.{turn_later}
use Rattle.chart.proofs.key_before.Goals as goal

pub returns : goal.returns
returns c =
    rw (c.key_of.ensures, c.read_u32.ensures.0)
    (turn_later (λ j. omega (arith, c.type_inv.body j)) c.requires (omega (arith, c.requires.place)))
