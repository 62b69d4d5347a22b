use mathlib.Core.Path.{refl}
use Rattle.chart.proofs.Checks.{well_formed}
use Rattle.witness.proofs.Loops.{lead_on_pass}
use Rattle.witness.proofs.loop_tables.LoopTables.vertex_check.Goals as goal

pub returns-in_default : goal.returns-in_default
returns-in_default c =
    let (T, low, at, few, (ends, D, S)) = c.requires in
    let s = c.args.self.now in
    lead_on_pass (well_formed _ s.labelling.chart.now.passed) T at (rw s.all at D) (S.passes (rw c.in_default.is refl)) low few
    s.labelling.bytes

pub pass_at_once-requires : goal.pass_at_once-requires
pass_at_once-requires c =
    let (T, low, at, few, (ends, D, S)) = c.requires in
    let (M, R) = rw c.in-Some.is at S.returns in
    (T, low, at, few, M, R)

pub returns-then-pass_at_once : goal.returns-then-pass_at_once
returns-then-pass_at_once c = c.pass_at_once.ensures c.if-pass_at_once.true

pub entries_check-requires : goal.entries_check-requires
entries_check-requires c =
    let (T, low, at, few, (ends, D, S)) = c.requires in
    let (M, R) = rw c.in-Some.is at S.returns in
    (T, M, at)
