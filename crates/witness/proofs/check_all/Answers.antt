use Rattle.witness.proofs.check_all.Goals as goal

pub check_large-requires : goal.check_large-requires
check_large-requires c = rw c.in_ok-new.ensures.ok.1 c.highest_byte.ensures.1
