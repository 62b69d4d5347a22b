use mathlib.Core.Path.{sym, ◌∙◌}
use mathlib.Core.Bool.{false≢true}
use Rattle.bisimulation.proofs.PairChecks.{row_passed}
use Rattle.bisimulation.proofs.PairLaws.{suspects_clear}
use Rattle.bisimulation.proofs.pairs.Search.suspect_row.Goals as goal

pub returns-then-not-contains : goal.returns-then-not-contains
returns-then-not-contains c = λ e relation S. row_passed (suspects_clear S c.requires.1 _ (λ h. false≢true (sym c.if-not-contains.true ∙ c.contains.ensures.1 h)))
