use Rattle.witness.proofs.Labelling.check_in.Goals as goal

pub collect-requires : goal.collect-requires
collect-requires c = (_, c.requires.0, c.requires.1)

pub check_by-requires : goal.check_by-requires
check_by-requires c = (c.requires.0, c.collect.ensures _ c.requires.1)
