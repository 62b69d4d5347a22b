use native.Mathlib.Omega.{arith}
use Rattle.elimination.proofs.LoopLists.{first_all}
use Rattle.elimination.proofs.clear_all.Goals as goal

pub returns : goal.returns
returns c = first_all _ (omega arith) c.loop-i.invariant.1
