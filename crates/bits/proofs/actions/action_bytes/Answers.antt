use Rattle.std.proofs.Common.{refl, replicate}
use Rattle.bits.proofs.SetBytes.{joined}
use Rattle.bits.proofs.ActionLaws.{joined_all}
use Rattle.bits.proofs.actions.action_bytes.Goals as goal

pub returns : goal.returns
returns c =
    let low = c.set_bytes.ensures in
    let high = c.set_bytes-2.ensures in
    joined_all low high (joined 16 c.copy_from_slice.new.self c.copy_from_slice-2.new.self (replicate 16 0)
    c.copy_from_slice.ensures.after c.copy_from_slice-2.ensures.after low.long high.long refl)
