use native.Mathlib.Omega.{arith}
use Rattle.witness.proofs.Runs.{took_then, levels_then}
use Rattle.witness.proofs.tables.Runs.take_entries.Goals as goal

pub take_each_entry-requires : goal.take_each_entry-requires
take_each_entry-requires c =
    let p = c.requires in
    let (T, G) = c.take_level-first.ensures in
    (T.to, p.1, p.2, λ i h. omega (arith, p.3 i h, G.long))

pub returns : goal.returns
returns c =
    let (T, G) = c.take_level-first.ensures in
    let (U, f, H) = c.take_each_entry.ensures in
    (took_then T U, f, levels_then c.args.self.now.labels.now T.from U.from G H)
