use mathlib.Core.Path.{sym, ◌∙◌}
use Rattle.witness.proofs.Labellings.{labelled_long}
use Rattle.witness.proofs.Labelling.new.Goals as goal

pub returns-then-labels-count-clause-err : goal.returns-then-labels-count-clause-err
returns-then-labels-count-clause-err c = labelled_long _ _ (λ e. c.if-labels-count.true (e ∙ sym c.count.ensures.0))
