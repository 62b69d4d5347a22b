use mathlib.Core.Logic.Iff
use Rattle.bits.proofs.Members.{both}
use Rattle.bits.proofs.ActionLaws.{none_of}
use Rattle.bits.proofs.actions.Actions.is_empty.Goals as goal

pub returns : goal.returns
returns c = Iff.trans (both _ _ c.is_empty.ensures c.is_empty-2.ensures) (none_of c.args.self)
