use mathlib.Core.Logic.{inr, ⊎_elim}
use Rattle.bits.proofs.Members.{none}
use Rattle.bits.proofs.sets.Set.without.Goals as goal

pub returns : goal.returns
returns c = λ y. let d = c.difference.ensures y in let w = c.with.ensures y in (
  (λ h. ((d.0 h).0, λ e. (d.0 h).1 (w.1 (inr e)))),
  (λ (h, n). d.1 (h, λ m. ⊎_elim (λ z. none y (rw c.empty.ensures at z)) n (w.0 m))),
)
