use mathlib.Core.Logic.{∥∥₁_map}
use Rattle.elimination.proofs.Walking.{rows_more}
use Rattle.elimination.proofs.walk.Rows.read_row.Goals as goal

pub invariant_of-self : goal.invariant_of-self
invariant_of-self c =
    let s = c.args.self.now in
    record {
      long = s.long;
      rows = rw c.put_row.ensures (∥∥₁_map s.rows (λ R. rows_more R c.requires c.kept-targets.ensures c.with-self.ensures));
    }
