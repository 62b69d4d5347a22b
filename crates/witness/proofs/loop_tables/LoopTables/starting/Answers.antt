use mathlib.Core.Path.{refl, sym, ◌∙◌}
use mathlib.Core.Bool.{false≢true}
use Rattle.witness.proofs.loop_tables.LoopTables.starting.Goals as goal

pub returns-then-all : goal.returns-then-all
returns-then-all c = (λ e. refl, λ e. absurd (false≢true (sym e ∙ c.if-all.true)))

pub returns-else-all : goal.returns-else-all
returns-else-all c = (λ e. absurd (false≢true (sym c.if-all.false ∙ e)), λ e. c.returning.ensures)
