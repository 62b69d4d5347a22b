use Rattle.bits.proofs.ActionLaws.{union_actions}
use Rattle.bits.proofs.actions.Actions.union.Goals as goal

pub returns : goal.returns
returns c = union_actions c.args.self c.args.other _ c.union.ensures c.union-2.ensures
