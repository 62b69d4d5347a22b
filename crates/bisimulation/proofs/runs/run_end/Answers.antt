use native.Mathlib.Omega.{arith}
use Rattle.bisimulation.proofs.RunLaws.{run_one, run_more}
use Rattle.bisimulation.proofs.runs.run_end.Goals as goal

pub returns-then-into-w : goal.returns-then-into-w
returns-then-into-w c = let p = c.requires in (omega arith, omega (arith, p.0, p.1), run_one _ _)

pub returns : goal.returns
returns c = let p = c.requires in (p.0, p.1, run_more p.2 c.if-into-w.false)
