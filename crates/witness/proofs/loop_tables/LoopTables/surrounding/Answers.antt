use Rattle.reach.proofs.Knowing.{whole_of}
use Rattle.witness.proofs.Nested.{alone_reached, alone_closed}
use Rattle.witness.proofs.loop_tables.LoopTables.surrounding.Goals as goal

pub closure-requires : goal.closure-requires
closure-requires c = (whole_of _ c.args.self.now.branches.whole, c.requires.0)

pub returns : goal.returns
returns c = let M = c.closure.ensures in (alone_reached M, alone_closed M)
