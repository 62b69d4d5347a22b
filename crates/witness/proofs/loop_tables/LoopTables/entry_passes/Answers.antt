use mathlib.Core.Logic.{inl, inr}
use Rattle.witness.proofs.Entries.{mark_none, mark_back, mark_other}
use Rattle.witness.proofs.loop_tables.LoopTables.entry_passes.Goals as goal

pub returns-then-label-eq0 : goal.returns-then-label-eq0
returns-then-label-eq0 c = mark_none c.if-label-eq0.true

pub returns-then-comes_back : goal.returns-then-comes_back
returns-then-comes_back c =
    mark_back c.requires.5 c.mark.ensures
    (c.comes_back.ensures.0 c.if-comes_back.true)

pub returns-then-all : goal.returns-then-all
returns-then-all c =
    let p = c.requires in
    mark_other p.5 c.mark-2.ensures p.3 (λ e. inl c.if-all.true)

pub returns-else-all : goal.returns-else-all
returns-else-all c =
    let p = c.requires in
    mark_other p.5 c.mark-2.ensures p.3 (λ e. inr (c.is_below.ensures e))
