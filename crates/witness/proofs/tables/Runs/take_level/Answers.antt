use Prim.Native.Nat.{◌+◌}
use native.Mathlib.Omega.{arith}
use Rattle.witness.proofs.Runs.{took_none, took_more, took_then, took_as, levels_none, levels_run}
use Rattle.witness.proofs.tables.Runs.take_level.Goals as goal

pub returns-then-end-at : goal.returns-then-end-at
returns-then-end-at c = (took_none c.requires.0, levels_none c.args.self.now.labels.now)

pub returns-then-label-eq0 : goal.returns-then-label-eq0
returns-then-label-eq0 c = (took_none c.requires.0, levels_none c.args.self.now.labels.now)

pub returns-then-not-eight_have : goal.returns-then-not-eight_have
returns-then-not-eight_have c = (took_none c.requires.0, levels_none c.args.self.now.labels.now)

pub insert-requires : goal.insert-requires
insert-requires c =
    let p = c.requires in
    (omega (arith, c.byte-label.ensures.0, p.3 c.args.at (omega (arith, p.1, c.args.self.now.long))), p.2)

pub returns : goal.returns
returns c =
    let z = c.eight_have.ensures c.if-not-eight_have.false in
    let n = c.if-label-eq0.false in
    let T = took_then (took_more (c.args.at + 8) (took_none c.requires.0)
    (omega arith) (omega arith) z c.with_eight-first.ensures)
    c.take_eights.ensures in (
      took_as (λ i e. omega (arith, e, n)) T,
      levels_run c.args.self.now.labels.now (omega (arith, c.take_eights.ensures.from)) T.each c.insert.ensures,
    )
