use Rattle.bits.proofs.Ones.{with_by_law}
use Rattle.bits.proofs.sets.Set.with_by.Goals as goal

pub returns : goal.returns
returns c =
    let (n, l, O) = c.requires.0 in
    with_by_law O l c.requires.1 c.args.self
