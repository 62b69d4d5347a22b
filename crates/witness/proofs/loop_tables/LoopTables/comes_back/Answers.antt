use Rattle.theory.proofs.Tests.{decides_or, decides_eqb}
use Rattle.witness.proofs.loop_tables.LoopTables.comes_back.Goals as goal

pub returns : goal.returns
returns c = decides_or (decides_eqb _ _) c.in_row.ensures
