use Rattle.bits.proofs.ActionLaws.{packed_actions}
use Rattle.bits.proofs.actions.read_actions.Goals as goal

pub returns : goal.returns
returns c =
    packed_actions c.args.s.now c.args.at _ c.read_set.ensures c.read_set-2.ensures
