use Rattle.chart.specs.Checks.{◌and◌}
use Rattle.chart.specs.Codes.{code_ok}
use Rattle.chart.proofs.code_ok.Goals as goal

pub returns : goal.returns
unfolding code_ok ◌and◌
returns c = rw c.code_rises.ensures
