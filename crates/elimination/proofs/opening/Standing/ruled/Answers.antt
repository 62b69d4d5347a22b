use Rattle.std.proofs.lemmas.Result.{err_from_is_err_and}
use Rattle.chart.proofs.Checks.{passes}
use Rattle.elimination.proofs.opening.Standing.ruled.Goals as goal

pub range_of-requires : goal.range_of-requires
range_of-requires c = passes _ c.args.self.now.fits.formed

pub returns-in_err-targets : goal.returns-in_err-targets
returns-in_err-targets c =
    let x = err_from_is_err_and c.from_residual.result c.from_residual.ensures.1 in rw (x.1, x.2) c.in_err-targets.ensures
