use Rattle.elimination.proofs.Entries.{fits_test}
use Rattle.elimination.proofs.opening.standing_fits.Goals as goal

pub returns : goal.returns
returns c = λ b e. fits_test b _ _ _ e c.highest_byte.ensures.1
