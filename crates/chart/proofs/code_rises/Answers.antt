use mathlib.Core.Path.{refl}
use Rattle.chart.specs.Checks.{◌and◌}
use Rattle.chart.specs.Codes.{code_rises}
use Rattle.chart.proofs.code_rises.Goals as goal

pub returns : goal.returns
unfolding code_rises ◌and◌
returns c = refl
