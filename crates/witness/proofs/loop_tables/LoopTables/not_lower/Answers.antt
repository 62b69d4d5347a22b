use Rattle.reach.proofs.Knowing.{whole_of}
use Rattle.witness.proofs.loop_tables.LoopTables.not_lower.Goals as goal

pub row_or_empty-requires : goal.row_or_empty-requires
row_or_empty-requires c = whole_of _ c.args.self.now.whole

pub returns : goal.returns
returns c =
    let R = c.row_or_empty.ensures in
    record {
      exactly = λ w h.
          let W = c.without.ensures w in
          let I = rw R at (c.intersection.ensures w) in
          (λ g. let (a, n) = W.0 g in (I.0 a, n), λ (a, n). W.1 (I.1 a, n));
    }
